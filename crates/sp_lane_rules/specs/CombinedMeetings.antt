-- Combinations by any operator, as far as the rules of cores go.
use Rattle.std.specs.Prelude.{◌≡◌, ◌≤◌, ℕ, Bool, true, false, not, List, ◌∷◌, ◌++◌, take, drop, length, Option, Some, None}
use Rattle.std.specs.List.{list_any}
use Rattle.sp_core.specs.declared.operation.OpKind.{OpKind}
use Rattle.sp_core.specs.declared.operation.OpKind.TheVariants.{Two, Mux}
use Rattle.sp_core.specs.PlainCore.{PlainOp}
use Rattle.sp_core.specs.Typed.{is_comparison, gives}
use Rattle.sp_lanes.specs.Combined.{Meeting, meeting, takes}
use Rattle.sp_lane_rules.specs.UnrolledMeetings.{given_of}

-- a choice, or an operator that gives a word of the type that it takes
abbrev pub ends_meeting : OpKind → Bool
ends_meeting (Two operator) = not (is_comparison operator)
ends_meeting Mux = true
ends_meeting _ = false

-- of the operations that take the word of a meeting, the last one is such a one, and is done at the meeting's type
pub record IsEnded (m : Meeting) (ops : List PlainOp) : Type 0 where
  pub before : List PlainOp
  pub last : PlainOp
  pub after : List PlainOp
  pub is : ops ≡ before ++ last ∷ after
  pub takes_it : takes m.word last ≡ true
  pub no_more : list_any (takes m.word) after ≡ false
  pub ends : ends_meeting last.kind ≡ true
  pub alike : last.ty ≡ m.ty

-- a combination, from a place of a list on: its first operator gives a word of its type, and takes one from before that place,
-- by which the meeting ends
pub record IsMetFrom (first : ℕ) (ops : List PlainOp) : Type 0 where
  pub inside : first ≤ length ops
  pub plain : is_comparison (meeting (drop first ops)).operator ≡ false
  pub word : gives (given_of (take first ops)) (meeting (drop first ops)).word (meeting (drop first ops)).ty ≡ true
  pub ended : IsEnded (meeting (drop first ops)) (drop first ops)

-- the same, if there is one
abbrev pub IsMet : List PlainOp → Option ℕ → Type 0
IsMet ops None = Unit {0}
IsMet ops (Some first) = IsMetFrom first ops
