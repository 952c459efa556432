-- Combinations by an operator that gives the same in whatever order it is done.
use Rattle.std.specs.Prelude.{◌≡◌, ◌≤◌, ℕ, true, List, map, take, drop, length, Option, Some, None}
use Rattle.sp_core.specs.PlainCore.{PlainOp}
use Rattle.sp_core.specs.Typed.{Given, given_type, gives}
use Rattle.sp_lanes.specs.Combined.{meeting}
use Rattle.sp_lanes.specs.Joined.{is_balanced}

-- what each of these operations gives
abbrev pub given_of : List PlainOp → Given
given_of ops = map (λ (op : PlainOp). given_type op.kind op.ty) ops

-- a combination, from a place of a list on: its first operator is balanced, and takes a word of its type from before that place
pub record IsBalancedFrom (first : ℕ) (ops : List PlainOp) : Type 0 where
  pub inside : first ≤ length ops
  pub balanced : is_balanced (meeting (drop first ops)).operator (meeting (drop first ops)).ty ≡ true
  pub word : gives (given_of (take first ops)) (meeting (drop first ops)).word (meeting (drop first ops)).ty ≡ true

-- the same, if there is one
abbrev pub IsBalanced : List PlainOp → Option ℕ → Type 0
IsBalanced ops None = Unit {0}
IsBalanced ops (Some first) = IsBalancedFrom first ops
