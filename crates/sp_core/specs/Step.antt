-- Steps of a core, one after the other. A core stops at what would be a fault of its program; which one, and where, is
-- told by the program's own meaning, and nothing is said of the core of a program that has a fault. Only an FSM may go
-- on without end, so it alone is given a number of turns.
use Rattle.std.specs.Prelude.{ℕ, zero, suc, Bool, true, false, List, [], ◌∷◌}
use Rattle.sp_core.specs.Store.{Store}

infixr 10 ◌>>=◌
infixr 10 ◌>>◌
-- how a step went: it gave something, in a store; or the core stopped; or some FSM needs more turns
pub data Went (A : Type 0) : Type 0 where
  went : A → Store → Went A
  stopped : Went A
  more : Went A

-- a step, from a store
abbrev pub Step : Type 0 → Type 0
Step A = Store → Went A

-- nothing to do
unfoldable pub pure : {A : Type 0} → A → Step A
pure a s = went a s

-- one step, and then the step that its answer asks for
unfoldable pub ◌>>=◌ : {A B : Type 0} → Step A → (A → Step B) → Step B
◌>>=◌ step rest s = elim (step s) [ went a s ↦ rest a s | stopped ↦ stopped | more ↦ more ]

abbrev pub ◌>>◌ : {A B : Type 0} → Step A → Step B → Step B
◌>>◌ step rest = step >>= (λ _. rest)

-- the core stops
unfoldable pub stop : {A : Type 0} → Step A
stop s = stopped

-- it does unless the test is passed
abbrev pub ensure : Bool → Step (Unit {0})
ensure true = pure tt
ensure false = stop

-- an FSM has no turn left
unfoldable pub out_of_turns : {A : Type 0} → Step A
out_of_turns s = more

-- what stands in the store, and another store
unfoldable pub look : {A : Type 0} → (Store → A) → Step A
look at s = went (at s) s

unfoldable pub change : (Store → Store) → Step (Unit {0})
change next s = went tt (next s)

-- the same for each element, in order
unfoldable pub in_order : {A B : Type 0} → (A → Step B) → List A → Step (List B)
in_order step [] = pure []
in_order step (x ∷ xs) = do
  first ← step x
  others ← in_order step xs
  pure (first ∷ others)

-- a test and, as long as its answer asks for it, a turn, at most so many; with the last test's answer
unfoldable pub repeated : {A B : Type 0} → ℕ → (test : Step A) → (holds : A → Bool) → (A → Step B) → Step (List B × A)
repeated zero test holds turn = do
  tested ← test
  elim (holds tested) [ true ↦ out_of_turns | false ↦ pure ([], tested) ]
repeated (suc most) test holds turn = do
  tested ← test
  elim (holds tested) [
    | true ↦ do
      first ← turn tested
      (others, last) ← repeated most test holds turn
      pure (first ∷ others, last)
    | false ↦ pure ([], tested)
  ]
