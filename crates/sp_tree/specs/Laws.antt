-- Laws of the sequential meaning, as statements.
use Rattle.std.specs.Prelude.{◌≡◌, ℕ, ◌<◌, ◌≤◌, Bool, false, IsTrue, List}
use Rattle.sp_tree.specs.declared.statement.FaultKind.{FaultKind}
use Rattle.sp_tree.specs.Meaning.{Outcome, ended, stopped, unfinished, seq}
use Rattle.sp_words.specs.Ports.{PlainInput}
use Rattle.sp_tree.specs.PlainProgram.{PlainProgram}
use Rattle.sp_tree.specs.Shape.{Shape}
use Rattle.sp_tree.specs.Step.{Step, Went, went, faulted, more}
use Rattle.sp_tree.specs.Store.{Store}

-- an answer that takes t turns: it is given with t turns or more, and none is given with fewer
pub record TakesTurns (t : ℕ) (p : PlainProgram) (input : PlainInput) (answer : Outcome) : Type 0 where
  pub enough : (n : ℕ) → t ≤ n → seq n p input ≡ answer
  pub too_few : (n : ℕ) → n < t → seq n p input ≡ unfinished

-- how a program answers depends on the turns that it is given only by whether they are enough
pub record IsDecidedByTurns (p : PlainProgram) (input : PlainInput) : Type 0 where
  pub ends : (n : ℕ) (outs : List ℕ) (drams : List (List ℕ)) (t : ℕ) (shape : Shape) → seq n p input ≡ ended outs drams t shape → (t ≤ n) × TakesTurns t p input (ended outs drams t shape)
  pub stops : (n : ℕ) (kind : FaultKind) (place : ℕ) → seq n p input ≡ stopped kind place → (t : ℕ) × (t ≤ n) × TakesTurns t p input (stopped kind place)
  pub goes_on : (n : ℕ) → seq n p input ≡ unfinished → (m : ℕ) → m ≤ n → seq m p input ≡ unfinished

-- the same stands in both stores for values, counters and the memories that pass a test
pub record Agree (is : ℕ → Bool) (one two : Store) : Type 0 where
  pub held : (m : ℕ) → IsTrue (is m) → one.held m ≡ two.held m
  pub values : (v : ℕ) → one.values v ≡ two.values v
  pub counts : (c : ℕ) → one.counts c ≡ two.counts c

-- two steps went the same way, as far as the memories that pass the test show
abbrev pub WentAlike : {A : Type 0} → (ℕ → Bool) → Went A → Went A → Type 0
WentAlike is (went a left s) (went b rest t) = (a ≡ b) × (left ≡ rest) × Agree is s t
WentAlike is (faulted kind place) (faulted other at) = (kind ≡ other) × (place ≡ at)
WentAlike is more more = Unit {0}
WentAlike is _ _ = ⊥

-- what a memory holds that doesn't pass the test, it still holds
abbrev pub LeftAlone : {A : Type 0} → (ℕ → Bool) → Store → Went A → Type 0
LeftAlone is s (went a left t) = (m : ℕ) → is m ≡ false → t.held m ≡ s.held m
LeftAlone is s _ = Unit {0}

-- a step changes and looks at only memories that pass the test
pub record IsWithin {A : Type 0} (is : ℕ → Bool) (step : Step A) : Type 0 where
  pub changes : (left : ℕ) (s : Store) → LeftAlone is s (step left s)
  pub looks : (left : ℕ) (one two : Store) → Agree is one two → WentAlike is (step left one) (step left two)
