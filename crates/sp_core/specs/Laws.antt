-- Laws of the meaning of a core, as statements.
use Rattle.std.specs.Prelude.{◌≡◌, ℕ, ◌≤◌, Bool, false, IsTrue}
use Rattle.sp_core.specs.Events.{Standing, moments}
use Rattle.sp_core.specs.History.{History}
use Rattle.sp_core.specs.PlainCore.{PlainNode, PlainCore}
use Rattle.sp_core.specs.Replay.{Happens, after_all}
use Rattle.sp_core.specs.Scope.{Reading, Scope}
use Rattle.sp_core.specs.Sequential.{run}
use Rattle.sp_core.specs.Step.{Step, Went, went, stopped, more}
use Rattle.sp_core.specs.Store.{Store}

-- a step went as another one did, unless that one needs more turns
abbrev pub GoesOnAs : {A : Type 0} → Went A → Went A → Type 0
GoesOnAs (went a s) w = w ≡ went a s
GoesOnAs stopped w = w ≡ stopped
GoesOnAs more w = Unit {0}

-- with more turns a run goes the same way, unless it needs more
abbrev pub TurnsSuffice : PlainCore → Reading → PlainNode → Scope → Store → Type 0
TurnsSuffice core reading node scope s = (n m : ℕ) → n ≤ m → GoesOnAs (run core reading n node scope s) (run core reading m node scope s)

-- the same stands in both stores for the memories that pass a test
abbrev pub Agree : (is : ℕ → Bool) → (one two : Store) → Type 0
Agree is one two = (m : ℕ) → IsTrue (is m) → one m ≡ two m

-- two steps went the same way, as far as the memories that pass the test show
abbrev pub WentAlike : {A : Type 0} → (ℕ → Bool) → Went A → Went A → Type 0
WentAlike is (went a s) (went b t) = (a ≡ b) × Agree is s t
WentAlike is stopped stopped = Unit {0}
WentAlike is more more = Unit {0}
WentAlike is _ _ = ⊥

-- what a memory holds that doesn't pass the test, it still holds
abbrev pub LeftAlone : {A : Type 0} → (ℕ → Bool) → Store → Went A → Type 0
LeftAlone is s (went a t) = (m : ℕ) → is m ≡ false → t m ≡ s m
LeftAlone is s _ = Unit {0}

-- a step changes and looks at only memories that pass the test
pub record IsWithin {A : Type 0} (is : ℕ → Bool) (step : Step A) : Type 0 where
  pub changes : (s : Store) → LeftAlone is s (step s)
  pub looks : (one two : Store) → Agree is one two → WentAlike is (step one) (step two)

-- the moments of a run that ends, taken from its history and done one after the other, find what they need, and leave
-- what the run leaves; whatever numbers are given to its nodes and operations
abbrev pub IsReplayed : PlainCore → Reading → PlainNode → Type 0
IsReplayed core reading node =
    (turns : ℕ) (scope : Scope) (s t : Store) (h : History) → run core reading turns node scope s ≡ went h t →
    (k n : ℕ) (st : Standing) → Happens core (moments core reading node k n st h) s × (after_all core (moments core reading node k n st h) s ≡ t)
