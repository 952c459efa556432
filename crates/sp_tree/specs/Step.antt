-- Steps of a program, one after the other, with the turns that they take.
use Rattle.std.specs.Prelude.{ℕ, zero, suc, Bool, true, false, List, [], ◌∷◌}
use Rattle.sp_tree.specs.declared.statement.FaultKind.{FaultKind}
use Rattle.sp_tree.specs.Store.{Store}

infixr 10 ◌>>=◌
infixr 10 ◌>>◌
-- how a step went: it gave something, with so many turns left and in a store; or the program stopped at a fault of
-- a kind at a place of the text; or it needs more turns
pub data Went (A : Type 0) : Type 0 where
  went : A → (left : ℕ) → Store → Went A
  faulted : FaultKind → (place : ℕ) → Went A
  more : Went A

-- a step, from the turns that are left and the store
abbrev pub Step : Type 0 → Type 0
Step A = ℕ → Store → Went A

-- nothing to do
unfoldable pub pure : {A : Type 0} → A → Step A
pure a left s = went a left s

-- one step, and then the step that its answer asks for
unfoldable pub ◌>>=◌ : {A B : Type 0} → Step A → (A → Step B) → Step B
◌>>=◌ step rest left s = elim (step left s) [ went a left s ↦ rest a left s | faulted kind place ↦ faulted kind place | more ↦ more ]

abbrev pub ◌>>◌ : {A B : Type 0} → Step A → Step B → Step B
◌>>◌ step rest = step >>= (λ _. rest)

-- a turn is taken, where one is left
unfoldable pub turn : Step (Unit {0})
turn zero s = more
turn (suc left) s = went tt left s

-- no turn is left
unfoldable pub out_of_turns : {A : Type 0} → Step A
out_of_turns left s = more

-- the program stops
unfoldable pub fault : {A : Type 0} → FaultKind → (place : ℕ) → Step A
fault kind place left s = faulted kind place

-- the program stops there unless the test is passed
abbrev pub ensure : Bool → FaultKind → (place : ℕ) → Step (Unit {0})
ensure true kind place = pure tt
ensure false kind place = fault kind place

-- what stands in the store, and another store
unfoldable pub read : {A : Type 0} → (Store → A) → Step A
read look left s = went (look s) left s

unfoldable pub change : (Store → Store) → Step (Unit {0})
change next left s = went tt left (next s)

-- the same for each element, in order
unfoldable pub in_order : {A B : Type 0} → (A → Step B) → List A → Step (List B)
in_order step [] = pure []
in_order step (x ∷ xs) = do
  first ← step x
  others ← in_order step xs
  pure (first ∷ others)

-- as long as the state passes the test, the step, which gives the next state; at most so many times
unfoldable pub repeated : {A B : Type 0} → ℕ → (A → Step Bool) → (A → Step (A × B)) → A → Step (List B)
repeated zero test step state = do
  holds ← test state
  elim holds [ true ↦ out_of_turns | false ↦ pure [] ]
repeated (suc most) test step state = do
  holds ← test state
  elim holds [
    | true ↦ do
      (next, first) ← step state
      others ← repeated most test step next
      pure (first ∷ others)
    | false ↦ pure []
  ]

-- the same with no bound but the turns: each step takes one
unfoldable pub as_long_as : {A B : Type 0} → (A → Step Bool) → (A → Step (A × B)) → A → Step (List B)
as_long_as test step state left s = repeated left test step state left s
