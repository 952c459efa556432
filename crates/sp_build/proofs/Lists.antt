-- Elements of lists that pass a test.
use Rattle.std.proofs.Common.{◌≡◌, ◌⊎◌, ℕ, zero, suc, ◌<◌, Bool, true, false, ◌&&◌, List, [], ◌∷◌, map, length, slice_index_or, inl, inr, refl, sym, ap, subst, arith}
use Rattle.std.proofs.lemmas.Bool.{and_parts}
use Rattle.std.specs.List.{Contains, list_all}

pub cons_cases : {X : Type 0} (x : X) (xs : List X) (y : X) → Contains (x ∷ xs) y → (x ≡ y) ⊎ Contains xs y
cons_cases x xs y (zero, lt, e) = inl e
cons_cases x xs y (suc k, lt, e) = inr (k, omega (arith, lt), e)

pub all_at : {X : Type 0} (p : X → Bool) (xs : List X) (x : X) → list_all p xs ≡ true → Contains xs x → p x ≡ true
all_at p [] y h (k, lt, e) = absurd (omega (arith, lt))
all_at p (x ∷ xs) y h (zero, lt, e) = subst (λ z. p z ≡ true) e (and_parts (p x) (list_all p xs) h).0
all_at p (x ∷ xs) y h (suc k, lt, e) = all_at p xs y (and_parts (p x) (list_all p xs) h).1 (k, omega (arith, lt), e)

pub only : {X : Type 0} (x y : X) → Contains (x ∷ []) y → x ≡ y
only x y h = elim (cons_cases x [] y h) [
  | inl e ↦ e
  | inr (k, lt, e) ↦ absurd (omega (arith, lt))
]

with_false : (b c : Bool) → c ≡ false → (b && c) ≡ false
with_false true c e = e
with_false false c e = refl

-- where one element fails, not all pass
pub one_fails : {X Y : Type 0} (p : Y → Bool) (f : X → Y) (xs : List X) (i : ℕ) (x : X) → i < length xs → x ≡ slice_index_or xs i x → p (f x) ≡ false → false ≡ list_all p (map f xs)
one_fails p f [] i x l e h = absurd (omega (arith, l))
one_fails p f (y ∷ ys) zero x l e h = sym (ap (λ b. b && list_all p (map f ys)) (subst (λ z. p (f z) ≡ false) e h))
one_fails p f (y ∷ ys) (suc i) x l e h = sym (with_false (p (f y)) (list_all p (map f ys)) (sym (one_fails p f ys i x (omega (arith, l)) e h)))

-- an element of a mapped list
pub map_at : {X Y : Type 0} (f : X → Y) (xs : List X) (i : ℕ) (x : X) (d : Y) → i < length xs → x ≡ slice_index_or xs i x → slice_index_or (map f xs) i d ≡ f x
map_at f [] i x d l e = absurd (omega (arith, l))
map_at f (y ∷ ys) zero x d l e = ap f (sym e)
map_at f (y ∷ ys) (suc i) x d l e = map_at f ys i x d (omega (arith, l)) e
