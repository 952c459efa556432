-- What stands in a draft still stands when more is added.
use Rattle.std.proofs.Common.{ℕ, List, [], ◌∷◌, take}
use Rattle.sp_words.specs.declared.types.Ty.{Ty}
use Rattle.sp_words.specs.Types.{width_of}
use Rattle.sp_netlist.specs.Draft.{Draft}
use Rattle.sp_netlist.specs.Signals.{Signals}
use Rattle.sp_gates.specs.Grows.{Grows}
use Rattle.sp_gates.proofs.Growing.{HasNet-stays, IsOne-stays}
use Rattle.sp_gates.proofs.Running.{runs_earlier}
use Rattle.sp_core.specs.Around.{Near}
use Rattle.sp_core.specs.PlainCore.{PlainOp, PlainCore}
use Rattle.sp_pipe.specs.declared.part.Act.{Act}
use Rattle.sp_pipe.specs.declared.part.Act.TheVariants.{Given, Word, One, Two, Shift, Mux, Cast, Read, Deq, Write, Enq, Reset}
use Rattle.sp_pipe.specs.declared.part.PipeOp.{PipeOp}
use Rattle.sp_pipe.specs.Acts.{AreOperandsTo, ActsAt, AreActs, none, passed, acted}
use Rattle.sp_pipe.specs.Right.{ActFits, OpFits, OpsFit}
use Rattle.sp_plan.specs.PlainPlan.{PlainPlan}
use Rattle.sp_node_runs.specs.BodiesGiven.{Nets}
use Rattle.sp_op_nets.specs.declared.acted.ActedList.{ActedList}
use Rattle.sp_op_nets.specs.declared.table.AroundNets.{AroundNets}
use Rattle.sp_op_nets.specs.Table.{StandAround}
use Rattle.sp_tree_circuits.specs.Parts.{DirectNet}
use Rattle.sp_bound_nets.specs.Direct.{IsActedList, IsAlwaysActed}

module _ (a b : Draft) (g : Grows a b) where
  act_kept : (ty : Ty) (act : Act) → ActFits a ty act → ActFits b ty act
  act_kept ty (Given net) h = HasNet-stays a b net (width_of ty) g h
  act_kept ty (Word w) h = h
  act_kept ty (One op) h = h
  act_kept ty (Two op) h = h
  act_kept ty (Shift left by) h = h
  act_kept ty Mux h = h
  act_kept ty (Cast to) h = h
  act_kept ty (Read net after) h = HasNet-stays a b net (width_of ty) g h
  act_kept ty (Deq net after) h = HasNet-stays a b net (width_of ty) g h
  act_kept ty Write h = h
  act_kept ty Enq h = h
  act_kept ty Reset h = h

  fit_kept : (earlier : List PipeOp) (op : PipeOp) → OpFits a earlier op → OpFits b earlier op
  fit_kept earlier op h = record { act = act_kept op.ty op.act h.act; count = h.count; args = h.args; mask = h.mask; time = h.time }

  pub fits_kept : (ops : List PipeOp) → OpsFit a ops → OpsFit b ops
  fits_kept ops h k op at = fit_kept (take k ops) op (h k op at)

  operands_kept : (ops : List PipeOp) (op : PipeOp) (operands : List ℕ) (n : ℕ) → AreOperandsTo a ops op operands n → AreOperandsTo b ops op operands n
  operands_kept ops op operands n h = record {
    each = h.each;
    nets = λ i l. HasNet-stays a b _ _ g (h.nets i l);
    words = λ i l s r. h.words i l s (runs_earlier a b s g r);
  }

  act_at_kept : (issue : ℕ) (all : List PipeOp) (op : PipeOp) (enable : ℕ) (operands : List ℕ) → ActsAt a issue all op enable operands → ActsAt b issue all op enable operands
  act_at_kept issue all op enable operands h = record {
    net = HasNet-stays a b enable 1 g h.net;
    enabled = λ s r. h.enabled s (runs_earlier a b s g r);
    early = λ s r. h.early s (runs_earlier a b s g r);
    taken = operands_kept all op operands _ h.taken;
  }

  acts_kept : (issue : ℕ) (all ops : List PipeOp) (nets : List ℕ) → AreActs a issue all ops nets → AreActs b issue all ops nets
  acts_kept issue all [] _ none = none
  acts_kept issue all (op ∷ ops) nets (passed e h) = passed e (acts_kept issue all ops nets h)
  acts_kept issue all (op ∷ ops) _ (acted {enable = enable} {operands = operands} {nets = nets} e at h) = acted e (act_at_kept issue all op enable operands at) (acts_kept issue all ops nets h)

  pub always_kept : (number : ℕ) (ps : List PipeOp) (x : ActedList) → IsAlwaysActed a number ps x → IsAlwaysActed b number ps x
  always_kept number ps x h = record {
    issue = h.issue;
    always = IsOne-stays a b h.issue g h.always;
    acted = record { first = h.acted.first; ops = h.acted.ops; acts = acts_kept h.issue ps ps x.nets.items h.acted.acts };
  }

  pub list_kept : (number : ℕ) (ops : List PlainOp) (x : ActedList) → IsActedList a number ops x → IsActedList b number ops x
  list_kept number ops x h = record {
    ops_of = h.ops_of;
    acts = always_kept number x.ops.items x h.acts;
    answers = λ k p at e. HasNet-stays a b _ _ g (h.answers k p at e);
    at_once = h.at_once;
  }

  pub around_kept : (table : List AroundNets) (near : List Near) → StandAround a table near → StandAround b table near
  around_kept table near h c lane has = (let at = h c lane has in record { within = at.within; value = HasNet-stays a b _ _ g at.value; has = at.has; masks = λ i l. HasNet-stays a b _ _ g (at.masks i l) })

  module _ (core : PlainCore) (plan : PlainPlan) (s : Signals) (near : List Near) (env : Nets) (ops : List PlainOp) (net : ℕ) where
    abbrev pub direct_kept : DirectNet core plan s near env a ops net → DirectNet core plan s near env b ops net
    direct_kept w = record {
      ps = w.ps;
      timed = record { ops_of = w.timed.ops_of; fits = fits_kept w.ps w.timed.fits; times = w.timed.times; memories = w.timed.memories };
      given = w.given;
      directly = w.directly;
      place = w.place;
      is_last = w.is_last;
      gives = w.gives;
      word = λ t r. w.word t (runs_earlier a b t g r);
    }
