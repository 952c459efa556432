-- What steps give, wherever they go.
use Rattle.std.proofs.Common.{◌≡◌, ℕ, zero, suc, Bool, true, false, List, [], ◌∷◌, length, All, refl, ap, subst}
use Rattle.std.proofs.lemmas.List.Elements.{All-nil, All-cons}
use Rattle.sp_core.specs.Step.{Step, Went, went, stopped, more, pure, ◌>>=◌, stop, out_of_turns, in_order, repeated}
use Rattle.sp_core.specs.Store.{Store}
use Rattle.sp_core.proofs.Replays.{not_stopped, not_more, same_value}

abbrev pub Gives : {A : Type 0} → (A → Type 0) → Step A → Type 0
Gives {A = A} P step = (s t : Store) (a : A) → step s ≡ went a t → P a

pub bind_gives : {A B : Type 0} (P : A → Type 0) (R : B → Type 0) (step : Step A) (rest : A → Step B) → Gives P step → ((a : A) → P a → Gives R (rest a)) → Gives R (step >>= rest)
unfolding ◌>>=◌
bind_gives {A = A} {B = B} P R step rest f g s t b e = go (step s) refl e
  where
    go : (w : Went A) → step s ≡ w → (elim w as (λ _. Went B) [ went a s ↦ rest a s | stopped ↦ stopped | more ↦ more ]) ≡ went b t → R b
    go (went a u) h k = g a (f s u a h) u t b k
    go stopped h k = not_stopped b t k
    go more h k = not_more b t k

-- a step of which nothing is asked, and what comes after it
pub then_gives : {A B : Type 0} (R : B → Type 0) (step : Step A) (rest : A → Step B) → ((a : A) → Gives R (rest a)) → Gives R (step >>= rest)
then_gives R step rest g = bind_gives (λ a. Unit {0}) R step rest (λ s t a e. tt) (λ a u. g a)

pub pure_gives : {A : Type 0} (P : A → Type 0) (a : A) → P a → Gives P (pure a)
unfolding pure
pure_gives P a p s t b e = subst P (same_value a b s t e) p

pub stop_gives : {A : Type 0} (P : A → Type 0) → Gives P stop
unfolding stop
stop_gives P s t a e = not_stopped a t e

no_turn_gives : {A : Type 0} (P : A → Type 0) → Gives P out_of_turns
unfolding out_of_turns
no_turn_gives P s t a e = not_more a t e

-- a step for each element gives as much as there are elements
pub each_gives : {A B : Type 0} (P : B → Type 0) (step : A → Step B) → ((a : A) → Gives P (step a)) → (xs : List A) → Gives (λ ys. All P ys × (length ys ≡ length xs)) (in_order step xs)
unfolding in_order
each_gives P step f [] = pure_gives _ [] (All-nil P, refl)
each_gives P step f (x ∷ xs) =
    bind_gives P _ (step x) _ (f x) (λ y p.
    bind_gives (λ ys. All P ys × (length ys ≡ length xs)) _ (in_order step xs) _ (each_gives P step f xs) (λ ys h.
    pure_gives _ (y ∷ ys) (All-cons P y ys p h.0, ap suc h.1)))

-- the turns of an FSM
pub turns_give : {A B : Type 0} (P : B → Type 0) (test : Step A) (holds : A → Bool) (turn : A → Step B) → ((a : A) → Gives P (turn a)) → (many : ℕ) → Gives (λ r. All P r.0) (repeated many test holds turn)
unfolding repeated
turns_give {A = A} {B = B} P test holds turn f zero = then_gives _ test _ (λ a. choose (holds a) a)
  where
    choose : (b : Bool) (a : A) → Gives (λ (r : List B × A). All P r.0) (elim b as (λ _. Step (List B × A)) [ true ↦ out_of_turns | false ↦ pure ([], a) ])
    choose true a = no_turn_gives _
    choose false a = pure_gives _ ([], a) (All-nil P)
turns_give {A = A} {B = B} P test holds turn f (suc many) = then_gives _ test _ (λ a. choose (turns_give P test holds turn f many) (holds a) a)
  where
    choose : Gives (λ (r : List B × A). All P r.0) (repeated many test holds turn) → (b : Bool) (a : A)
        → Gives (λ (r : List B × A). All P r.0) (elim b as (λ _. Step (List B × A)) [ true ↦ turn a >>= (λ first. repeated many test holds turn >>= (λ r. pure (first ∷ r.0, r.1))) | false ↦ pure ([], a) ])
    choose others true a = bind_gives P _ (turn a) _ (f a) (λ b p. bind_gives (λ (r : List B × A). All P r.0) _ (repeated many test holds turn) _ others (λ r h. pure_gives _ (b ∷ r.0, r.1) (All-cons P b r.0 p h)))
    choose others false a = pure_gives _ ([], a) (All-nil P)
