-- The numbers of things that stand one after the other.
use Rattle.std.proofs.Common.{◌≡◌, ℕ, suc, ◌+◌, List, [], ◌∷◌, ◌++◌, length, map, refl, sym, ap, ◌∙◌, arith}
use Rattle.std.proofs.lemmas.List.{append-nil, append_assoc}
use Rattle.sp_tree.specs.Elements.{numbers_below}

-- numbered from n on
abbrev pub places : {A : Type 0} → ℕ → List A → List ℕ
places n [] = []
places n (x ∷ xs) = n ∷ places (n + 1) xs

pub places_append : {A : Type 0} (n : ℕ) (xs ys : List A) → places n (xs ++ ys) ≡ places n xs ++ places (n + length xs) ys
places_append n [] ys = ap (λ m. places m ys) (omega arith)
places_append n (x ∷ xs) ys =
    ap (λ l. n ∷ l) (places_append (n + 1) xs ys ∙ ap (λ m. places (n + 1) xs ++ places m ys) (omega arith))

pub places_two : {A : Type 0} (n : ℕ) (xs ys : List A) (a b : List ℕ) → a ≡ places n xs → b ≡ places (n + length xs) ys → a ++ b ≡ places n (xs ++ ys)
places_two n xs ys a b e f = ap (λ l. l ++ b) e ∙ ap (λ l. places n xs ++ l) f ∙ sym (places_append n xs ys)

-- one more at the end
places_end : {A : Type 0} (n : ℕ) (xs : List A) (x : A) → places n (xs ++ x ∷ []) ≡ places n xs ++ (n + length xs) ∷ []
places_end n xs x = places_append n xs (x ∷ [])

numbers_places : {A : Type 0} (n : ℕ) (xs : List A) → numbers_below n ++ places n xs ≡ numbers_below (n + length xs)
numbers_places n [] =
    let e : n ≡ n + 0 = omega arith in
    append-nil _ ∙ ap numbers_below e
numbers_places n (x ∷ xs) =
    let e : n + 1 ≡ suc n = omega arith in
    let f : n + 1 + length xs ≡ n + length (x ∷ xs) = omega arith in
    sym (append_assoc (numbers_below n) (n ∷ []) (places (n + 1) xs))
    ∙ ap (λ m. numbers_below m ++ places (n + 1) xs) (sym e)
    ∙ numbers_places (n + 1) xs
    ∙ ap numbers_below f

-- from 0 on
pub places_below : {A : Type 0} (xs : List A) → places 0 xs ≡ numbers_below (length xs)
places_below xs =
    let e : 0 + length xs ≡ length xs = omega arith in
    numbers_places 0 xs ∙ ap numbers_below e

-- only how many there are tells
pub places_same : {A B : Type 0} (n : ℕ) (xs : List A) (ys : List B) → length xs ≡ length ys → places n xs ≡ places n ys
places_same n [] [] e = refl
places_same n [] (y ∷ ys) e = absurd (omega arith)
places_same n (x ∷ xs) [] e = absurd (omega arith)
places_same n (x ∷ xs) (y ∷ ys) e = ap (λ l. n ∷ l) (places_same (n + 1) xs ys (omega arith))

pub places_of_map : {A B : Type 0} (n : ℕ) (f : A → B) (xs : List A) → places n (map f xs) ≡ places n xs
places_of_map n f [] = refl
places_of_map n f (x ∷ xs) = ap (λ l. n ∷ l) (places_of_map (n + 1) f xs)
