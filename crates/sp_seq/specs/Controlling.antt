-- How controllers go: statements, bodies, iterations and turns of FSMs.
use Rattle.std.specs.Prelude.{◌≡◌, ℕ, List, [], ◌∷◌, ◌++◌, Result, Ok, Err}
use Rattle.sp_words.specs.declared.types.Ty.{Ty}
use Rattle.sp_words.specs.Words.{IsWord}
use Rattle.sp_tree.specs.Expressions.{word}
use Rattle.sp_tree.specs.PlainExpression.{PlainExpr}
use Rattle.sp_tree.specs.PlainProgram.{PlainMem}
use Rattle.sp_tree.specs.PlainStatement.{PlainCounter, PlainStmtKind, PlainStmts}
use Rattle.sp_tree.specs.Sequential.{run_kind, run_all, count_now, name_now}
use Rattle.sp_tree.specs.Shape.{Shape, ran, shapes}
use Rattle.sp_tree.specs.Step.{Step, Went, went, pure, ◌>>=◌, ◌>>◌, turn}
use Rattle.sp_tree.specs.Structure.{mems_declared, vals_declared, counters_declared, counter_numbers}
use Rattle.sp_tree.specs.Typing.{Scope, BodyTyped, HasType, IsFreshVal, after, after_all, with_val, with_counters}
use Rattle.sp_seq.specs.declared.state.State.{State}
use Rattle.sp_seq.specs.declared.state.Stop.{Stop}
use Rattle.sp_seq.specs.Evaluating.{Setting}
use Rattle.sp_seq.specs.Running.{Numbered, BodyTold, CanRun, CanRunAll, Stands, Finished}
use Rattle.sp_seq.specs.States.{store_of, halted}

-- how a run went that ends with an answer beside what was run
abbrev pub FinishedWith : {A : Type 0} → List PlainMem → (roomy : List ℕ) → Scope → (good : A → Type 0) → (s : State) → Went (A × Shape) → Result A Stop → (t : State) → Type 0
FinishedWith mems roomy scope good s w (Ok a) t = (inner : Shape) × (w ≡ went (a, inner) t.left (store_of t)) × Stands mems roomy scope s t × good a
FinishedWith mems roomy scope good s w (Err stop) t = w ≡ halted stop

-- a statement goes as it means, with what is visible after it, and so do the statements of a body
abbrev pub Runs : List PlainMem → PlainStmtKind → (place : ℕ) → (s : State) → Result (Unit {0}) Stop → (t : State) → Type 0
Runs mems kind place s r t =
    (can : CanRun mems kind s) → Finished mems can.setting.roomy (after can.setting.scope kind) s (run_kind mems can.setting.roomy kind place s.left (store_of s)) r t

abbrev pub RunsAll : List PlainMem → PlainStmts → (s : State) → Result (Unit {0}) Stop → (t : State) → Type 0
RunsAll mems body s r t =
    (can : CanRunAll mems body s) → Finished mems can.setting.roomy (after_all can.setting.scope body) s (run_all mems can.setting.roomy body s.left (store_of s)) r t

-- the body of a loop with these counters
pub record CanLoop (mems : List PlainMem) (counters : List PlainCounter) (body : PlainStmts) (s : State) : Type 0 where
  pub setting : Setting mems s
  pub typed : BodyTyped setting.program (with_counters setting.scope counters) body
  pub numbered : Numbered mems s (mems_declared body) (vals_declared body) (counter_numbers counters ++ counters_declared body)
  pub told : BodyTold mems setting.roomy body

-- an iteration up to the end of the body, with words for the counters
abbrev pub round : List PlainMem → (roomy : List ℕ) → List PlainCounter → PlainStmts → List ℕ → Step (List Shape)
round mems roomy counters body ws = do
  turn
  count_now counters ws
  run_all mems roomy body

abbrev pub RunsRound : List PlainMem → List PlainCounter → PlainStmts → List ℕ → (s : State) → Result (Unit {0}) Stop → (t : State) → Type 0
RunsRound mems counters body ws s r t =
    (can : CanLoop mems counters body s) → Finished mems can.setting.roomy (after_all (with_counters can.setting.scope counters) body) s (round mems can.setting.roomy counters body ws s.left (store_of s)) r t

-- a turn of an FSM whose states have a type, from a state to the next one
pub record CanTurn (mems : List PlainMem) (state last : ℕ) (body : PlainStmts) (next : PlainExpr) (s : State) (from : ℕ) : Type 0 where
  pub setting : Setting mems s
  pub ty : Ty
  pub is_word : IsWord ty from
  pub state_fresh : IsFreshVal setting.program setting.scope state
  pub last_fresh : IsFreshVal setting.program setting.scope last
  pub typed : BodyTyped setting.program (with_val setting.scope state ty) body
  pub next_typed : HasType setting.program (with_val setting.scope last ty) ty next
  pub numbered : Numbered mems s (mems_declared body) (state ∷ vals_declared body ++ last ∷ []) (counters_declared body)
  pub told : BodyTold mems setting.roomy body

abbrev pub fsm_turn : List PlainMem → (roomy : List ℕ) → (state last : ℕ) → PlainStmts → (next : PlainExpr) → (from : ℕ) → Step (ℕ × Shape)
fsm_turn mems roomy state last body next w = do
  turn
  name_now state w
  inner ← run_all mems roomy body
  name_now last w
  after ← word mems next
  pure (after, ran (shapes inner))

abbrev pub RunsTurn : List PlainMem → (state last : ℕ) → PlainStmts → (next : PlainExpr) → (s : State) → (from : ℕ) → Result ℕ Stop → (t : State) → Type 0
RunsTurn mems state last body next s from r t =
    (can : CanTurn mems state last body next s from)
    → FinishedWith mems can.setting.roomy can.setting.scope (IsWord can.ty) s (fsm_turn mems can.setting.roomy state last body next from s.left (store_of s)) r t
