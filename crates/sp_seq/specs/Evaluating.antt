-- When an expression can be evaluated in a state.
use Rattle.std.specs.Prelude.{◌≡◌, ℕ, List, Result, Ok, Err}
use Rattle.sp_tree.specs.Expressions.{element, words}
use Rattle.sp_tree.specs.Step.{Step, ◌>>=◌}
use Rattle.sp_tree.specs.PlainExpression.{PlainExpr, PlainExprs}
use Rattle.sp_tree.specs.PlainProgram.{PlainMem, PlainProgram}
use Rattle.sp_tree.specs.Typing.{Scope, Typed, IndicesTyped}
use Rattle.sp_seq.specs.declared.state.State.{State}
use Rattle.sp_seq.specs.declared.state.Stop.{Stop}
use Rattle.sp_seq.specs.States.{Sees}

-- what is visible, in a program with these memories, is there in the state
pub record Setting (mems : List PlainMem) (s : State) : Type 0 where
  pub program : PlainProgram
  pub same : program.mems ≡ mems
  pub scope : Scope
  pub roomy : List ℕ
  pub sees : Sees mems roomy scope s

-- the expression is typed under what is visible, and so are indices
pub record CanEval (mems : List PlainMem) (e : PlainExpr) (s : State) : Type 0 where
  pub setting : Setting mems s
  pub typed : Typed setting.program setting.scope e

pub record CanEvalAll (mems : List PlainMem) (es : PlainExprs) (s : State) : Type 0 where
  pub setting : Setting mems s
  pub typed : IndicesTyped setting.program setting.scope es

-- what came back, with another answer where it went well
abbrev pub with_answer : {A B : Type 0} → A → Result B Stop → Result A Stop
with_answer a (Ok b) = Ok a
with_answer a (Err stop) = Err stop

-- the place of the element at these indices, once they are evaluated
unfoldable pub placed : List PlainMem → ℕ → (place : ℕ) → PlainExprs → Step ℕ
placed mems m place indices = do
  is ← words mems indices
  element mems m place is
