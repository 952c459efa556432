-- The operations of lists as their circuits have them, and the nets on which accesses are to be answered.
use Rattle.std.specs.Prelude.{◌≡◌, ℕ, true, if◌then◌else◌, List, [], ◌∷◌, ◌++◌}
use Rattle.sp_words.specs.Types.{width_of}
use Rattle.sp_netlist.specs.Draft.{Draft}
use Rattle.sp_gates.specs.Nets.{HasNet}
use Rattle.sp_core.specs.PlainCore.{PlainOp}
use Rattle.sp_pipe.specs.declared.part.PipeOp.{PipeOp}
use Rattle.sp_pipe.specs.Acts.{AreActs}
use Rattle.sp_pipe.specs.Right.{IsAt}
use Rattle.sp_part_runs.specs.ActsCircuits.{is_answered, net_of, answer_of}
use Rattle.sp_part_runs.specs.ActsEntries.{IsOpAt}
use Rattle.sp_op_nets.specs.declared.acted.ActedList.{ActedList}

-- the nets of the words of reads and takes, in order
abbrev pub answers_of : List PipeOp → List ℕ
answers_of [] = []
answers_of (p ∷ ps) = (if is_answered p.act then net_of p.act ∷ [] else []) ++ answers_of ps

abbrev pub answers_in : List ActedList → List ℕ
answers_in [] = []
answers_in (a ∷ acted) = answers_of a.ops.items ++ answers_in acted

-- the net on which a read or a take is to be answered has the width of its word
abbrev pub AnswersStand : Draft → List PipeOp → Type 0
AnswersStand d ps = (k : ℕ) (p : PipeOp) → IsAt ps k p → is_answered p.act ≡ true → HasNet d (net_of p.act) (width_of p.ty)

-- it is to be answered exactly so many cycles after its access as the operation says
abbrev pub AreAnsweredAfter : (after : PlainOp → ℕ) → List PlainOp → List PipeOp → Type 0
AreAnsweredAfter after ops ps = (k : ℕ) (op : PlainOp) (p : PipeOp) → IsOpAt ops k op → IsAt ps k p → is_answered p.act ≡ true → answer_of p.act ≡ after op

-- a list as its circuit has it, from the number of its first operation on: each access acts where its group is issued
pub record IsActed (d : Draft) (issue number : ℕ) (ps : List PipeOp) (a : ActedList) : Type 0 where
  pub first : a.number ≡ number
  pub ops : a.ops.items ≡ ps
  pub acts : AreActs d issue ps ps a.nets.items
