-- What follows where lists agree.
use Rattle.std.proofs.Common.{ℕ, ◌+◌, List, length, Some, sym, ap, ◌∙◌, arith}
use Rattle.sp_netlist.specs.Signals.{Signals}
use Rattle.sp_core.specs.declared.operation.OpKind.{OpKind}
use Rattle.sp_core.specs.PlainCore.{PlainOp}
use Rattle.sp_machine.specs.Stamps.{Stamped}
use Rattle.sp_pipe.specs.declared.part.PipeOp.{PipeOp}
use Rattle.sp_node_runs.specs.BodiesTold.{ActsInTime, AreAnsweredInTime}
use Rattle.sp_tree_events.specs.PartsAgreeing.{Finds, Agree, AgreeIn, AgreeLaws}

finds_through : (a b c : List Stamped) (n : ℕ) → Finds a b n → Finds b c n → Finds a c n
finds_through a b c n first second t e h =
    let x = first t e h in
    let y = second t x.0 x.1 in
    (y.0, y.1, record { mem = y.2.mem ∙ x.2.mem; indices = y.2.indices ∙ x.2.indices; act = y.2.act ∙ x.2.act }, y.3 ∙ x.3)

acts_in_whole : (s : Signals) (whole part : List Stamped) (last n : ℕ) (kind : OpKind) (enable : ℕ) (operands : List ℕ) → Agree whole part n → ActsInTime s part last n kind enable operands → ActsInTime s whole last n kind enable operands
acts_in_whole s whole part last n kind enable operands same acts = record {
  enabled = record { on = λ t l h. (let x = same.into t h.0 h.1 in acts.enabled.on t l (x.0, x.1)); only = λ t l h. (let b = acts.enabled.only t l h in let x = same.back t b.0 b.1 in (x.0, x.1)) };
  at = λ t e l h. (let x = same.into t e h in sym x.2.indices ∙ acts.at t x.0 l x.1);
  word = λ t e l h c. (let x = same.into t e h in acts.word t x.0 l x.1 c ∙ ap Some x.2.act);
  index = λ t e l h. (let x = same.into t e h in acts.index t x.0 l x.1);
}

answered_in_part : (s : Signals) (whole part : List Stamped) (last first : ℕ) (ops : List PlainOp) (ps : List PipeOp) → AgreeIn whole part first (first + length ops) → AreAnsweredInTime s whole last first ops ps → AreAnsweredInTime s part last first ops ps
answered_in_part s whole part last first ops ps same are k op p at there a t e h late w act =
    let within = at.within in
    let x = (same (first + k) (omega arith) (omega (arith, within))).back t e h in
    are k op p at there a t x.0 x.1 late w (act ∙ ap Some (sym x.2.act))

pub agreement : AgreeLaws
agreement = record {
  through = λ a b c n f g. record { into = finds_through a b c n f.into g.into; back = finds_through c b a n g.back f.back };
  acts = acts_in_whole;
  answers = answered_in_part;
}
