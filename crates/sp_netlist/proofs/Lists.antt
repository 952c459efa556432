-- Facts on lists that the rules of netlists need.
use Rattle.std.proofs.Common.{◌≡◌, ℕ, zero, suc, ◌<◌, ◌≤◌, Bool, true, List, [], ◌∷◌, ◌++◌, length, get_or, take, drop, map, flat_map, count_by, Contains, Some, slice_get, ◌⊎◌, inl, inr, refl, sym, ap, ◌∙◌, arith, drop-cons, take-append-drop, cond}
use Rattle.std.proofs.lemmas.List.{length-map}
use Rattle.std.proofs.lemmas.List.Elements.{Contains-append_right}
use Rattle.std.proofs.lemmas.List.Sums.{get_or-le-sum_by}

-- an element of a list splits it
pub split_at : {X : Type 0} (xs : List X) (x : X) → Contains xs x → (before : List X) × (after : List X) × (xs ≡ before ++ x ∷ after)
split_at xs x (k, h, e) = (take k xs, drop (suc k) xs, sym (take-append-drop k xs) ∙ ap (λ r. take k xs ++ r) (drop-cons xs k x h ∙ ap (λ r. r ∷ drop (suc k) xs) e))

pub Contains-here : {X : Type 0} (x : X) (xs : List X) → Contains (x ∷ xs) x
Contains-here x xs = (0, omega arith, refl)

pub Contains-later : {X : Type 0} (y : X) (xs : List X) (x : X) → Contains xs x → Contains (y ∷ xs) x
Contains-later y xs x h = Contains-append_right (y ∷ []) xs x h

-- two functions that agree on the elements of a list
pub flat_map_same : {X Y : Type 0} (f g : X → List Y) (xs : List X) → ((x : X) → Contains xs x → f x ≡ g x) → flat_map f xs ≡ flat_map g xs
flat_map_same f g [] same = refl
flat_map_same f g (x ∷ xs) same =
    let here = same x (Contains-here x xs) in
    let later = flat_map_same f g xs (λ y h. same y (Contains-later x xs y h)) in
    rw (here, later)

-- one more element at the end of a list that is split
pub split_push : {X : Type 0} (xs : List X) (c : X) (before : List X) (x : X) (after : List X) → xs ++ c ∷ [] ≡ before ++ x ∷ after
    → ((before ≡ xs) × (x ≡ c)) ⊎ ((rest : List X) × (xs ≡ before ++ x ∷ rest))
split_push [] c [] x after e = inl (refl, cc)
split_push [] c (b ∷ []) x after e = let n = ap length e in absurd (omega (arith, n))
split_push [] c (b ∷ b' ∷ bs) x after e = let n = ap length e in absurd (omega (arith, n))
split_push (y ∷ ys) c [] x after e = let s : y ≡ x = cc in inr (ys, ap (λ z. z ∷ ys) s)
split_push (y ∷ ys) c (b ∷ bs) x after e =
    let s : y ≡ b = cc in
    let t : ys ++ c ∷ [] ≡ bs ++ x ∷ after = cc in
    elim (split_push ys c bs x after t) [
      | inl p ↦ inl (let q : b ∷ bs ≡ y ∷ ys = let r = p.0 in cc in q, p.1)
      | inr p ↦ inr (p.0, let r = p.1 in cc)
    ]

-- an element for which the test is true is counted
pub counted : {X : Type 0} (p : X → Bool) (xs : List X) (x : X) → Contains xs x → p x ≡ true → 1 ≤ count_by p xs
counted p xs x (k, h, e) passes =
    let le = get_or-le-sum_by (λ y. cond (p y) 1 0) xs k x h in
    let one : ◌≡◌ {A = ℕ} (cond (p (get_or xs k x)) 1 0) 1 = rw (e, passes) in
    omega (arith, le, one)

-- what is promised at a place stays when the list grows
pub slice_get_grown : {X : Type 0} (xs ys : List X) (i : ℕ) (x : X) → slice_get xs i ≡ Some x → slice_get (xs ++ ys) i ≡ Some x
slice_get_grown [] ys i x e = absurd (cc)
slice_get_grown (z ∷ xs) ys zero x e = e
slice_get_grown (z ∷ xs) ys (suc i) x e = slice_get_grown xs ys i x e

pub slice_get_last : {X : Type 0} (xs : List X) (x : X) → slice_get (xs ++ x ∷ []) (length xs) ≡ Some x
slice_get_last [] x = refl
slice_get_last (y ∷ xs) x = slice_get_last xs x

pub slice_get_mapped : {X Y : Type 0} (f : X → Y) (xs : List X) (y : Y) (n : ℕ) → n ≡ length xs → slice_get (map f xs ++ y ∷ []) n ≡ Some y
slice_get_mapped f xs y n e = rw (e, ← length-map xs f) (slice_get_last (map f xs) y)

pub slice_get_within : {X : Type 0} (xs : List X) (i : ℕ) (x : X) → slice_get xs i ≡ Some x → i < length xs
slice_get_within [] i x e = absurd (cc)
slice_get_within (y ∷ xs) zero x e = omega arith
slice_get_within (y ∷ xs) (suc i) x e = let h = slice_get_within xs i x e in omega arith
