-- Wires that are on in the cycles of all runs.
use Rattle.std.proofs.Common.{◌≡◌, ℕ, zero, suc, ◌<◌, ◌≤◌, ◌⊎◌, inl, inr, Bool, true, false, ◌||◌, not, refl, sym, ap, ◌∙◌, arith, List, [], ◌∷◌, map}
use Rattle.std.specs.List.{Contains}
use Rattle.sp_part_runs.specs.BodiesRuns.{IsOnAt}
use Rattle.sp_sequence.specs.Members.{IsAfter}
use Rattle.sp_part_runs.specs.SequencesChains.{At}

pub no_element : {A : Type 0} (x : A) → Contains [] x → ⊥
no_element x c = let l = c.1 in absurd (omega (arith, l))

pub here : {A : Type 0} (x : A) (xs : List A) → Contains (x ∷ xs) x
here x xs = (0, omega arith, refl)

pub there : {A : Type 0} (x y : A) (xs : List A) → Contains xs y → Contains (x ∷ xs) y
there x y xs c = let l = c.1 in (suc c.0, omega (arith, l), c.2)

pub mapped : {A B : Type 0} (f : A → B) (xs : List A) (x : A) → Contains xs x → Contains (map f xs) (f x)
mapped f [] x c = absurd (no_element x c)
mapped f (y ∷ xs) x (zero, l, e) = (0, omega arith, ap f e)
mapped f (y ∷ xs) x (suc i, l, e) = there (f y) (f x) (map f xs) (mapped f xs x (i, omega (arith, l), e))

pub unmapped : {A B : Type 0} (f : A → B) (xs : List A) (b : B) → Contains (map f xs) b → (x : A) × Contains xs x × (f x ≡ b)
unmapped f [] b c = absurd (no_element b c)
unmapped f (y ∷ xs) b (zero, l, e) = (y, here y xs, e)
unmapped f (y ∷ xs) b (suc i, l, e) = let r = unmapped f xs b (i, omega (arith, l), e) in (r.0, there y r.0 xs r.1, r.2)

pub one_of : (a b : Bool) → (a || b) ≡ true → (a ≡ true) ⊎ (b ≡ true)
one_of true b h = inl refl
one_of false b h = inr h

pub either : (b : Bool) → (b ≡ true) ⊎ (b ≡ false)
either true = inl refl
either false = inr refl

pub was_not : (b : Bool) → not b ≡ true → b ≡ false
was_not true h = cc
was_not false h = refl

pub is_not : (b : Bool) → b ≡ false → not b ≡ true
is_not true h = cc
is_not false h = refl

pub neither : (b : Bool) → b ≡ true → b ≡ false → ⊥
neither b h g = absurd (cc)

pub by_order : (a b : ℕ) → (a ≤ b) ⊎ (b < a)
by_order a b = grind arith

-- the same cycles, told in another way
pub on_same : (wire : ℕ → Bool) (P Q : ℕ → Type 0) (last : ℕ) → ((t : ℕ) → P t → Q t) → ((t : ℕ) → Q t → P t) → IsOnAt wire P last → IsOnAt wire Q last
on_same wire P Q last to from h = record { on = λ t l q. h.on t l (from t q); only = λ t l b. to t (h.only t l b) }

pub at_same : {R : Type 0} (wire : ℕ → Bool) (f g : R → ℕ) (runs : List R) (last : ℕ) → ((r : R) → f r ≡ g r) → IsOnAt wire (At f runs) last → IsOnAt wire (At g runs) last
at_same wire f g runs last e = on_same wire (At f runs) (At g runs) last (λ t (r, c, m). (r, c, m ∙ e r)) (λ t (r, c, m). (r, c, m ∙ sym (e r)))

-- a wire that follows a cause is on in the cycles after those of the cause
pub after_on : (wire cause : ℕ → Bool) (W C : ℕ → Type 0) (last : ℕ) → IsAfter wire cause → IsOnAt cause C last → (W 0 → ⊥) → ((c : ℕ) → W (suc c) → C c) → ((c : ℕ) → C c → W (suc c)) → IsOnAt wire W last
after_on wire cause W C last follows h never back forth = record { on = is_on; only = was_on }
  where
    is_on : (t : ℕ) → t ≤ last → W t → wire t ≡ true
    is_on zero l w = absurd (never w)
    is_on (suc c) l w = follows (suc c) ∙ h.on c (omega (arith, l)) (back c w)

    was_on : (t : ℕ) → t ≤ last → wire t ≡ true → W t
    was_on zero l b = absurd (let e = sym (follows 0) ∙ b in cc (e))
    was_on (suc c) l b = forth c (h.only c (omega (arith, l)) (sym (follows (suc c)) ∙ b))

pub after_at : {R : Type 0} (wire cause : ℕ → Bool) (f : R → ℕ) (runs : List R) (last : ℕ) → IsAfter wire cause → IsOnAt cause (At f runs) last → IsOnAt wire (At (λ r. suc (f r)) runs) last
after_at wire cause f runs last follows h =
    after_on wire cause (At (λ r. suc (f r)) runs) (At f runs) last follows h (λ (r, c, e). omega (arith, e)) (λ t (r, c, e). (r, c, omega (arith, e))) (λ t (r, c, e). (r, c, ap suc e))
