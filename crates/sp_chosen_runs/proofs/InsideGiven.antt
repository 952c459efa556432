-- What steps give: tests, lists of steps, each with its own element, and turns of which the test is known.
use Rattle.std.proofs.Common.{◌≡◌, ℕ, zero, suc, Bool, true, false, List, [], ◌∷◌, refl}
use Rattle.sp_core.specs.Step.{Step, pure, ◌>>=◌, ◌>>◌, ensure, stop, out_of_turns, in_order, repeated}
use Rattle.sp_core.proofs.Replays.{not_stopped}
use Rattle.sp_time.specs.Lists.{Each}
use Rattle.sp_machine.proofs.CountedRuns.{Gives, gives_bind, gives_pure, gives_none}

-- a test that fails stops
pub gives_test : {A : Type 0} (b : Bool) (rest : Step A) (P : A → Type 0) → (b ≡ true → Gives P rest) → Gives P (ensure b >> rest)
unfolding ◌>>=◌ pure stop
gives_test true rest P h s t a e = h refl s t a e
gives_test false rest P h s t a e = not_stopped a t e

pub gives_stop : {A : Type 0} (P : A → Type 0) → Gives P stop
unfolding stop
gives_stop P s t a e = not_stopped a t e

pub gives_as : {A : Type 0} (P R : A → Type 0) (step : Step A) → ((a : A) → P a → R a) → Gives P step → Gives R step
gives_as P R step f g s t a e = f a (g s t a e)

-- two lists, element by element
abbrev pub Paired : {A B : Type 0} → (A → B → Type 0) → List A → List B → Type 0
Paired R [] [] = Unit {0}
Paired R (x ∷ xs) (y ∷ ys) = R x y × Paired R xs ys
Paired R _ _ = ⊥

pub gives_paired : {A B : Type 0} (step : A → Step B) (R : A → B → Type 0) → ((a : A) → Gives (R a) (step a)) → (xs : List A) → Gives (Paired R xs) (in_order step xs)
unfolding in_order
gives_paired step R f [] = gives_pure _ [] tt
gives_paired step R f (x ∷ xs) = gives_bind (step x) _ (R x) _ (f x) (λ y p. gives_bind (in_order step xs) _ (Paired R xs) _ (gives_paired step R f xs) (λ ys h. gives_pure _ (y ∷ ys) (p, h)))

pub gives_all : {A B : Type 0} (step : A → Step B) (P : B → Type 0) → ((a : A) → Gives P (step a)) → (xs : List A) → Gives (Each P) (in_order step xs)
unfolding in_order
gives_all step P f [] = gives_pure _ [] tt
gives_all step P f (x ∷ xs) = gives_bind (step x) _ P _ (f x) (λ y p. gives_bind (in_order step xs) _ (Each P) _ (gives_all step P f xs) (λ ys h. gives_pure _ (y ∷ ys) (p, h)))

-- the turns of an FSM, and its last test
pub gives_turns : {A B : Type 0} (P : B → Type 0) (Q : A → Type 0) (test : Step A) (holds : A → Bool) (turn : A → Step B) → Gives Q test → ((a : A) → Q a → Gives P (turn a)) → (many : ℕ) → Gives (λ r. Each P r.0 × Q r.1) (repeated many test holds turn)
unfolding repeated
gives_turns {A = A} {B = B} P Q test holds turn g f zero = gives_bind test _ Q _ g (λ a q. choose (holds a) a q)
  where
    choose : (b : Bool) (a : A) → Q a → Gives (λ (r : List B × A). Each P r.0 × Q r.1) (elim b as (λ _. Step (List B × A)) [ true ↦ out_of_turns | false ↦ pure ([], a) ])
    choose true a q = gives_none _
    choose false a q = gives_pure _ ([], a) (tt, q)
gives_turns {A = A} {B = B} P Q test holds turn g f (suc many) = gives_bind test _ Q _ g (λ a q. choose (gives_turns P Q test holds turn g f many) (holds a) a q)
  where
    choose : Gives (λ (r : List B × A). Each P r.0 × Q r.1) (repeated many test holds turn) → (b : Bool) (a : A) → Q a
        → Gives (λ (r : List B × A). Each P r.0 × Q r.1) (elim b as (λ _. Step (List B × A)) [ true ↦ turn a >>= (λ first. repeated many test holds turn >>= (λ r. pure (first ∷ r.0, r.1))) | false ↦ pure ([], a) ])
    choose h true a q = gives_bind (turn a) _ P _ (f a q) (λ b p. gives_bind (repeated many test holds turn) _ _ _ h (λ r hs. gives_pure _ (b ∷ r.0, r.1) ((p, hs.0), hs.1)))
    choose h false a q = gives_pure _ ([], a) (tt, q)
