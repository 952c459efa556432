-- A run of a core stays with its copies.
use Rattle.std.specs.Prelude.{ℕ, ◌+◌, nat_lt, List, [], ◌++◌, length, Option, Some, None, if◌then◌else◌}
use Rattle.sp_words.specs.declared.kind.Kind.{Kind}
use Rattle.sp_words.specs.declared.kind.Kind.TheVariants.{LineBuf}
use Rattle.sp_core.specs.Declarations.{kind_of}
use Rattle.sp_core.specs.History.{History}
use Rattle.sp_core.specs.Invariant.{IsCore}
use Rattle.sp_core.specs.PlainCore.{PlainNode, PlainStages, inner, outer, fsm, branch, no_stage, more_stage, PlainCore}
use Rattle.sp_plan.specs.PlainPlan.{PlainPlan}
use Rattle.sp_machine.specs.Timeline.{core_timed}
use Rattle.sp_machine.specs.Transfers.{Delays}
use Rattle.sp_overlap.specs.Whole.{IsTimed}
use Rattle.sp_contents.specs.Steady.{AtHand, AreSteady}

-- the memories that inner bodies own
abbrev mutual
  pub inner_owned : PlainNode → List ℕ
  inner_owned (inner counters owned ops comb) = owned
  inner_owned (outer counters style owned stages) = inner_owned_in stages
  inner_owned (fsm start state test body next) = inner_owned body
  inner_owned (branch test first second) = inner_owned first ++ inner_owned second
  inner_owned _ = []

  pub inner_owned_in : PlainStages → List ℕ
  inner_owned_in no_stage = []
  inner_owned_in (more_stage first last comb node rest) = inner_owned node ++ inner_owned_in rest

-- what is at hand at first: all but line buffers, in copy 0
abbrev pub hand_of : Kind → Option ℕ
hand_of LineBuf = None
hand_of kind = Some 0

abbrev pub first_hand : PlainCore → AtHand
first_hand core m = if nat_lt m (length core.mems + length core.ports.drams) then hand_of (kind_of core m) else None

-- from there on a run stays with its copies
abbrev pub RunsStay : PlainCore → PlainPlan → Delays → Type 0
RunsStay core plan delays = IsCore core → IsTimed core.root → (h : History) → AreSteady (first_hand core) (core_timed core plan delays h).events
