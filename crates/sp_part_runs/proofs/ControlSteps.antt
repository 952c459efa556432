-- Wires that follow causes a cycle later, and elements of lists.
use Rattle.std.proofs.Common.{◌≡◌, ℕ, zero, suc, ◌+◌, ◌<◌, ◌≤◌, ◌⊎◌, inl, inr, Bool, true, false, ◌&&◌, ◌||◌, not, refl, sym, ap, subst, ◌∙◌, arith, List, [], ◌∷◌, ◌++◌, length, map}
use Rattle.std.specs.List.{Contains}
use Rattle.std.specs.List.{flat_map}
use Rattle.std.proofs.lemmas.List.Elements.{Contains-append_left, Contains-append_right, Contains-append_cases}
use Rattle.sp_ctrl.specs.Runs.{IsAfter}
use Rattle.sp_part_runs.specs.BodiesRuns.{IsOnAt}

pub no_element : {A : Type 0} (x : A) → Contains [] x → ⊥
no_element x c = let l = c.1 in absurd (omega (arith, l))

pub here : {A : Type 0} (x : A) (xs : List A) → Contains (x ∷ xs) x
here x xs = (0, omega arith, refl)

pub there : {A : Type 0} (x y : A) (xs : List A) → Contains xs y → Contains (x ∷ xs) y
there x y xs c = let l = c.1 in (suc c.0, omega (arith, l), c.2)

pub one_of_more : {A : Type 0} (x y : A) (xs : List A) → Contains (x ∷ xs) y → (x ≡ y) ⊎ Contains xs y
one_of_more x y xs (zero, l, e) = inl e
one_of_more x y xs (suc i, l, e) = inr (i, omega (arith, l), e)

-- of a list that is mapped
pub mapped : {A B : Type 0} (f : A → B) (xs : List A) (x : A) → Contains xs x → Contains (map f xs) (f x)
mapped f [] x c = absurd (no_element x c)
mapped f (y ∷ xs) x (zero, l, e) = (0, omega arith, ap f e)
mapped f (y ∷ xs) x (suc i, l, e) = there (f y) (f x) (map f xs) (mapped f xs x (i, omega (arith, l), e))

pub unmapped : {A B : Type 0} (f : A → B) (xs : List A) (b : B) → Contains (map f xs) b → (x : A) × Contains xs x × (f x ≡ b)
unmapped f [] b c = absurd (no_element b c)
unmapped f (y ∷ xs) b (zero, l, e) = (y, here y xs, e)
unmapped f (y ∷ xs) b (suc i, l, e) = let r = unmapped f xs b (i, omega (arith, l), e) in (r.0, there y r.0 xs r.1, r.2)

-- of a list of which each element gives some
pub flat_in : {A B : Type 0} (f : A → List B) (xs : List A) (b : B) → Contains (flat_map f xs) b → (x : A) × Contains xs x × Contains (f x) b
flat_in {A} {B} f [] b c = absurd (no_element b c)
flat_in {A} {B} f (x ∷ xs) b c = by (Contains-append_cases (f x) (flat_map f xs) b c) (flat_in f xs b)
  where
    by : Contains (f x) b ⊎ Contains (flat_map f xs) b → (Contains (flat_map f xs) b → (y : A) × Contains xs y × Contains (f y) b) → (y : A) × Contains (x ∷ xs) y × Contains (f y) b
    by (inl c) rest = (x, here x xs, c)
    by (inr c) rest = let r = rest c in (r.0, there x r.0 xs r.1, r.2)

pub in_flat : {A B : Type 0} (f : A → List B) (xs : List A) (x : A) (b : B) → Contains xs x → Contains (f x) b → Contains (flat_map f xs) b
in_flat f [] x b c d = absurd (no_element x c)
in_flat f (y ∷ xs) x b (zero, l, e) d = Contains-append_left (f y) (flat_map f xs) b (subst (λ z. Contains (f z) b) (sym e) d)
in_flat f (y ∷ xs) x b (suc i, l, e) d = Contains-append_right (f y) (flat_map f xs) b (in_flat f xs x b (i, omega (arith, l), e) d)

-- a wire that follows a cause is on in the cycles after those of the cause
pub after_right : (wire cause : ℕ → Bool) (W C : ℕ → Type 0) (n : ℕ) → IsAfter wire cause → ((c : ℕ) → c < n → C c → cause c ≡ true) → ((c : ℕ) → c < n → cause c ≡ true → C c) → (W 0 → ⊥) → ((c : ℕ) → W (suc c) → C c) → ((c : ℕ) → C c → W (suc c)) → IsOnAt wire W n
after_right wire cause W C n follows on only never back forth = record { on = is_on; only = was_on }
  where
    is_on : (t : ℕ) → t ≤ n → W t → wire t ≡ true
    is_on zero l w = absurd (never w)
    is_on (suc c) l w = follows.on c ∙ on c (omega (arith, l)) (back c w)

    was_on : (t : ℕ) → t ≤ n → wire t ≡ true → W t
    was_on zero l h = absurd (let e = sym follows.off ∙ h in cc (e))
    was_on (suc c) l h = forth c (only c (omega (arith, l)) (sym (follows.on c) ∙ h))

pub on_less : (wire : ℕ → Bool) (Holds : ℕ → Type 0) (n last : ℕ) → n ≤ last → IsOnAt wire Holds last → IsOnAt wire Holds n
on_less wire Holds n last l h = record { on = λ t m. h.on t (omega (arith, l, m)); only = λ t m. h.only t (omega (arith, l, m)) }

pub one_of : (a b : Bool) → (a || b) ≡ true → (a ≡ true) ⊎ (b ≡ true)
one_of true b h = inl refl
one_of false b h = inr h

pub was_not : (b : Bool) → not b ≡ true → b ≡ false
was_not true h = cc
was_not false h = refl
