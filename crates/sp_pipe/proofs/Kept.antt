-- What stands in a draft still stands when more is added.
use Rattle.std.proofs.Common.{◌≡◌, ℕ, ◌+◌, IsTrue, List, [], ◌∷◌, map, take, subst}
use Rattle.sp_words.specs.declared.types.Ty.{Ty}
use Rattle.sp_words.specs.Types.{width_of}
use Rattle.sp_netlist.specs.Draft.{Draft}
use Rattle.sp_gates.specs.Grows.{Grows}
use Rattle.sp_gates.proofs.Growing.{HasNet-stays}
use Rattle.sp_gates.proofs.Running.{runs_earlier}
use Rattle.sp_pipe.specs.declared.part.Act.{Act}
use Rattle.sp_pipe.specs.declared.part.Act.TheVariants.{Given, Word, One, Two, Shift, Mux, Cast, Read, Deq, Write, Enq, Reset}
use Rattle.sp_pipe.specs.declared.part.PipeOp.{PipeOp}
use Rattle.sp_pipe.specs.declared.words.Stage.{Stage}
use Rattle.sp_pipe.specs.Values.{gives_word, word_time, act_word}
use Rattle.sp_pipe.specs.Acts.{HasWord, AreStages, AreOperandsTo, IsComputed, ActsAt, AreActs, none, passed, acted}
use Rattle.sp_pipe.specs.Right.{ActFits, OpFits, OpsFit}

module _ (a b : Draft) (g : Grows a b) where
  pub word_kept : (net time : ℕ) (ops : List PipeOp) (k : ℕ) → HasWord a net time ops k → HasWord b net time ops k
  word_kept net time ops k h = λ s r. h s (runs_earlier a b s g r)

  pub stages_kept : (stages : List Stage) (ops : List PipeOp) → AreStages a stages ops → AreStages b stages ops
  stages_kept stages ops h = λ k other l op at gives. let was = h k other l op at gives in record {
    net = HasNet-stays a b _ _ g was.net;
    when = was.when;
    gives = λ s r. was.gives s (runs_earlier a b s g r);
  }

  pub computed_kept : (net : ℕ) (op : PipeOp) (xs ys : List ℕ) → xs ≡ ys → (IsTrue (gives_word op.act) → IsComputed a net op xs) → IsTrue (gives_word op.act) → IsComputed b net op ys
  computed_kept net op xs ys e h = λ gives s r u. subst (λ zs. s.net (u + word_time op.act op.time) net ≡ act_word s u op.ty op.time op.act (map (s.net (u + op.time)) zs)) e (h gives s (runs_earlier a b s g r) u)

  pub operands_kept : (ops : List PipeOp) (op : PipeOp) (operands : List ℕ) (n : ℕ) → AreOperandsTo a ops op operands n → AreOperandsTo b ops op operands n
  operands_kept ops op operands n h = record {
    each = h.each;
    nets = λ i l. HasNet-stays a b _ _ g (h.nets i l);
    words = λ i l s r. h.words i l s (runs_earlier a b s g r);
  }

  act_fits_kept : (ty : Ty) (act : Act) → ActFits a ty act → ActFits b ty act
  act_fits_kept ty (Given net) h = HasNet-stays a b net (width_of ty) g h
  act_fits_kept ty (Word w) h = h
  act_fits_kept ty (One op) h = h
  act_fits_kept ty (Two op) h = h
  act_fits_kept ty (Shift left by) h = h
  act_fits_kept ty Mux h = h
  act_fits_kept ty (Cast to) h = h
  act_fits_kept ty (Read net after) h = HasNet-stays a b net (width_of ty) g h
  act_fits_kept ty (Deq net after) h = HasNet-stays a b net (width_of ty) g h
  act_fits_kept ty Write h = h
  act_fits_kept ty Enq h = h
  act_fits_kept ty Reset h = h

  pub op_fits_kept : (earlier : List PipeOp) (op : PipeOp) → OpFits a earlier op → OpFits b earlier op
  op_fits_kept earlier op h = record { act = act_fits_kept op.ty op.act h.act; count = h.count; args = h.args; mask = h.mask; time = h.time }

  pub ops_fit_kept : (ops : List PipeOp) → OpsFit a ops → OpsFit b ops
  ops_fit_kept ops h = λ k op at. op_fits_kept (take k ops) op (h k op at)

  acts_at_kept : (issue : ℕ) (all : List PipeOp) (op : PipeOp) (enable : ℕ) (operands : List ℕ) → ActsAt a issue all op enable operands → ActsAt b issue all op enable operands
  acts_at_kept issue all op enable operands h = record {
    net = HasNet-stays a b enable 1 g h.net;
    enabled = λ s r. h.enabled s (runs_earlier a b s g r);
    early = λ s r. h.early s (runs_earlier a b s g r);
    taken = operands_kept all op operands _ h.taken;
  }

  pub acts_kept : (issue : ℕ) (all ops : List PipeOp) (nets : List ℕ) → AreActs a issue all ops nets → AreActs b issue all ops nets
  acts_kept issue all [] _ none = none
  acts_kept issue all (op ∷ ops) nets (passed e h) = passed e (acts_kept issue all ops nets h)
  acts_kept issue all (op ∷ ops) _ (acted {enable = enable} {operands = operands} {nets = nets} e at h) = acted e (acts_at_kept issue all op enable operands at) (acts_kept issue all ops nets h)
