-- How many turns steps take at least.
use Rattle.std.proofs.Common.{◌≡◌, ℕ, suc, ◌+◌, ◌*◌, ◌≤◌, Bool, true, false, List, [], ◌∷◌, subst, arith}
use Rattle.std.proofs.Math.Nat.{suc-mul}
use Rattle.std.specs.Prelude.{length}
use Rattle.sp_tree.specs.declared.statement.FaultKind.{FaultKind}
use Rattle.sp_tree.specs.Step.{Step, went, pure, ◌>>=◌, turn, fault, ensure, read, change, in_order}
use Rattle.sp_tree.specs.Store.{Store}
use Rattle.sp_tree.proofs.Timed.{TimedAt, IsTimed}
use Rattle.sp_sugar.proofs.StepLemmas.{as_it_went, not_faulted, taken_apart}
use Rattle.sp_same.proofs.Turns.{turn_falls}

-- where the step goes on, it took so many turns
abbrev pub Takes : {A : Type 0} → Step A → ℕ → Type 0
Takes {A = A} step n = (left rest : ℕ) (s after : Store) (a : A) → step left s ≡ went a rest after → n + rest ≤ left

pub timed_takes : {A : Type 0} (step : Step A) → IsTimed A step → Takes step 0
timed_takes step timed left rest s after a e = let f = subst (λ w. TimedAt step s left w) e (timed left s) in omega (arith, f.1)

pub takes_bind : {A B : Type 0} (step : Step A) (more : A → Step B) (m n : ℕ) → Takes step m → ((a : A) → Takes (more a) n) → Takes (step >>= more) (m + n)
takes_bind step more m n f g left rest s after b e =
    let x = taken_apart step more left s b rest after e in
    omega (arith, f left x.between s x.store x.answer x.first, g x.answer x.between rest x.store after b x.second)

pub takes_less : {A : Type 0} (step : Step A) (m n : ℕ) → m ≤ n → Takes step n → Takes step m
takes_less step m n le f left rest s after a e = omega (arith, le, f left rest s after a e)

-- steps that take none
pub still_bind : {A B : Type 0} (step : Step A) (more : A → Step B) → Takes step 0 → ((a : A) → Takes (more a) 0) → Takes (step >>= more) 0
still_bind step more f g = takes_bind step more 0 0 f g

pub pure_takes : {A : Type 0} (a : A) → Takes (pure a) 0
unfolding pure
pure_takes a left rest s after b e = as_it_went (λ x n u. 0 + n ≤ left) a b left rest s after e (omega arith)

pub read_takes : {A : Type 0} (look : Store → A) → Takes (read look) 0
unfolding read
read_takes look left rest s after b e = as_it_went (λ x n u. 0 + n ≤ left) (look s) b left rest s after e (omega arith)

pub change_takes : (next : Store → Store) → Takes (change next) 0
unfolding change
change_takes next left rest s after b e = as_it_went (λ x n u. 0 + n ≤ left) tt b left rest (next s) after e (omega arith)

pub fault_takes : {A : Type 0} (kind : FaultKind) (place : ℕ) → Takes {A = A} (fault kind place) 0
unfolding fault
fault_takes kind place left rest s after a e = not_faulted kind place a rest after e

pub ensure_takes : (b : Bool) (kind : FaultKind) (place : ℕ) → Takes (ensure b kind place) 0
ensure_takes true kind place = pure_takes tt
ensure_takes false kind place = fault_takes kind place

pub turn_takes : Takes turn 1
turn_takes left rest s after a e = let f = turn_falls a left rest s after e in omega (arith, f.0)

-- each of some steps
pub each_takes : {X A : Type 0} (f : X → Step A) (n : ℕ) → ((x : X) → Takes (f x) n) → (xs : List X) → Takes (in_order f xs) (length xs * n)
unfolding in_order
each_takes f n g [] = takes_less (pure []) (0 * n) 0 (omega arith) (pure_takes [])
each_takes f n g (x ∷ xs) =
    takes_less (f x >>= (λ first. in_order f xs >>= (λ others. pure (first ∷ others)))) (suc (length xs) * n) (n + (length xs * n + 0)) (omega (arith, suc-mul (length xs) n))
    (takes_bind (f x) (λ first. in_order f xs >>= (λ others. pure (first ∷ others))) n (length xs * n + 0) (g x)
    (λ first. takes_bind (in_order f xs) (λ others. pure (first ∷ others)) (length xs * n) 0 (each_takes f n g xs) (λ others. pure_takes (first ∷ others))))
