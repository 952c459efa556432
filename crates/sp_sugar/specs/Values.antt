-- Where the word of a `val` is found. One without an operation of its own, a literal, a counter or the name of another,
-- stands for what it names wherever it is used. Any other is the word of its operations in the stage that computes it, and
-- is read from a register in others.
use Rattle.std.specs.Prelude.{ℕ, Option, Some, None}
use Rattle.sp_tree.specs.PlainExpression.{PlainExpr, expr, literal, counter, value}
use Rattle.sp_core.specs.Store.{changed}

pub data Source : Type 0 where
  -- the word at a place of the list of operations
  at_place : ℕ → Source
  in_register : ℕ → Source
  constant : ℕ → Source
  count : ℕ → Source

-- by the numbers of values
abbrev pub Sources : Type 0
Sources = ℕ → Source

abbrev pub no_sources : Sources
no_sources v = constant 0

-- in the stage at hand, and in others
pub record Values : Type 0 where
  pub here : Sources
  pub elsewhere : Sources

-- at the beginning of a stage
abbrev pub at_beginning : Sources → Values
at_beginning sources = record { here = sources; elsewhere = sources }

-- what an expression without an operation stands for
abbrev pub stands_for : Sources → PlainExpr → Option Source
stands_for sources (expr place ty (literal w)) = Some (constant w)
stands_for sources (expr place ty (counter c)) = Some (count c)
stands_for sources (expr place ty (value v)) = Some (sources v)
stands_for sources _ = None

-- the value of a number is found there
abbrev pub with_value : Values → ℕ → (here elsewhere : Source) → Values
with_value values v here elsewhere = record { here = changed values.here v here; elsewhere = changed values.elsewhere v elsewhere }

-- the three binders of an FSM stand for its state
abbrev pub with_state : Sources → (tested state last : ℕ) → (register : ℕ) → Sources
with_state sources tested state last r =
    changed (changed (changed sources tested (in_register r)) state (in_register r)) last (in_register r)
