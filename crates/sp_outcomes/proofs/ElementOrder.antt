-- The elements of a memory, in the order of their numbers: the last dimension's index goes fastest.
use Rattle.std.proofs.Common.{◌≡◌, ℕ, zero, suc, ◌+◌, ◌*◌, ◌<◌, ◌≤◌, List, [], ◌∷◌, ◌++◌, refl, sym, ◌∙◌, ap, arith, append_assoc, nat_lt, true}
use Rattle.std.proofs.lemmas.Bool.{ltb-true, ltb-false}
use Rattle.std.proofs.Math.Nat.{mul-le-mul_right}
use Rattle.std.specs.Prelude.{map, flat_map}
use Rattle.sp_words.specs.Interface.{word_count}
use Rattle.sp_tree.specs.Elements.{numbers_below, tuples, row_major}
use Rattle.sp_sugar.proofs.NumberLemmas.{either}

map_joined : {A B : Type 0} (f : A → B) (xs ys : List A) → map f (xs ++ ys) ≡ map f xs ++ map f ys
map_joined f [] ys = refl
map_joined f (x ∷ xs) ys = ap (λ l. f x ∷ l) (map_joined f xs ys)

flat_joined : {A B : Type 0} (f : A → List B) (xs ys : List A) → flat_map f (xs ++ ys) ≡ flat_map f xs ++ flat_map f ys
flat_joined f [] ys = refl
flat_joined f (x ∷ xs) ys = ap (λ l. f x ++ l) (flat_joined f xs ys) ∙ sym (append_assoc (f x) (flat_map f xs) (flat_map f ys))

nothing_after : {A : Type 0} (xs : List A) → xs ++ [] ≡ xs
nothing_after [] = refl
nothing_after (x ∷ xs) = ap (λ l. x ∷ l) (nothing_after xs)

numbers_on : (a k : ℕ) → numbers_below (a + k) ≡ numbers_below a ++ map (λ j. a + j) (numbers_below k)
numbers_on a zero = let e : a + zero ≡ a = omega arith in ap numbers_below e ∙ sym (nothing_after (numbers_below a))
numbers_on a (suc k) =
    let e : a + suc k ≡ suc (a + k) = omega arith in
    ap numbers_below e
    ∙ ap (λ l. l ++ (a + k) ∷ []) (numbers_on a k)
    ∙ append_assoc (numbers_below a) (map (λ j. a + j) (numbers_below k)) ((a + k) ∷ [])
    ∙ ap (λ l. numbers_below a ++ l) (sym (map_joined (λ j. a + j) (numbers_below k) (k ∷ [])))

-- rows one after the other
rows : (k d : ℕ) → flat_map (λ x. map (λ j. x * k + j) (numbers_below k)) (numbers_below d) ≡ numbers_below (d * k)
rows k zero = let e : 0 ≡ 0 * k = omega arith in ap numbers_below e
rows k (suc d) =
    let e : d * k + k ≡ suc d * k = omega arith in
    flat_joined (λ x. map (λ j. x * k + j) (numbers_below k)) (numbers_below d) (d ∷ [])
    ∙ ap (λ l. l ++ (map (λ j. d * k + j) (numbers_below k) ++ [])) (rows k d)
    ∙ ap (λ l. numbers_below (d * k) ++ l) (nothing_after (map (λ j. d * k + j) (numbers_below k)))
    ∙ sym (numbers_on (d * k) k)
    ∙ ap numbers_below e

in_row : (d : ℕ) (dims : List ℕ) (x : ℕ) (ts : List (List ℕ)) → map (row_major (d ∷ dims)) (map (λ others. x ∷ others) ts) ≡ map (λ j. x * word_count dims + j) (map (row_major dims) ts)
in_row d dims x [] = refl
in_row d dims x (t ∷ ts) = ap (λ l. (x * word_count dims + row_major dims t) ∷ l) (in_row d dims x ts)

in_rows : (d : ℕ) (dims : List ℕ) (ts : List (List ℕ)) (xs : List ℕ)
    → map (row_major (d ∷ dims)) (flat_map (λ x. map (λ others. x ∷ others) ts) xs) ≡ flat_map (λ x. map (λ j. x * word_count dims + j) (map (row_major dims) ts)) xs
in_rows d dims ts [] = refl
in_rows d dims ts (x ∷ xs) =
    map_joined (row_major (d ∷ dims)) (map (λ others. x ∷ others) ts) (flat_map (λ x. map (λ others. x ∷ others) ts) xs)
    ∙ ap (λ l. l ++ map (row_major (d ∷ dims)) (flat_map (λ x. map (λ others. x ∷ others) ts) xs)) (in_row d dims x ts)
    ∙ ap (λ l. map (λ j. x * word_count dims + j) (map (row_major dims) ts) ++ l) (in_rows d dims ts xs)

pub elements_in_order : (dims : List ℕ) → map (row_major dims) (tuples (map numbers_below dims)) ≡ numbers_below (word_count dims)
elements_in_order [] = refl
elements_in_order (d ∷ dims) =
    in_rows d dims (tuples (map numbers_below dims)) (numbers_below d)
    ∙ ap (λ l. flat_map (λ x. map (λ j. x * word_count dims + j) l) (numbers_below d)) (elements_in_order dims)
    ∙ rows (word_count dims) d

-- an index for each dimension, inside of it; and the last one of each
abbrev pub AreBelow : (dims indices : List ℕ) → Type 0
AreBelow [] [] = Unit {0}
AreBelow (d ∷ dims) (i ∷ indices) = (i < d) × AreBelow dims indices
AreBelow _ _ = ⊥

abbrev pub AreLast : (dims indices : List ℕ) → Type 0
AreLast [] [] = Unit {0}
AreLast (d ∷ dims) (i ∷ indices) = (suc i ≡ d) × AreLast dims indices
AreLast _ _ = ⊥

pub element_below : (dims indices : List ℕ) → AreBelow dims indices → row_major dims indices < word_count dims
element_below [] [] b = omega arith
element_below [] (i ∷ indices) b = absurd b
element_below (d ∷ dims) [] b = absurd b
element_below (d ∷ dims) (i ∷ indices) b =
    let row : suc i ≤ d = omega (arith, b.0) in
    omega (arith, element_below dims indices b.1, mul-le-mul_right (word_count dims) row)

-- the last indices are those of the last element, and of no other
pub last_is_last : (dims indices : List ℕ) → AreBelow dims indices → AreLast dims indices → suc (row_major dims indices) ≡ word_count dims
last_is_last [] [] b l = omega arith
last_is_last [] (i ∷ indices) b l = absurd b
last_is_last (d ∷ dims) [] b l = absurd b
last_is_last (d ∷ dims) (i ∷ indices) b l =
    let e : suc i * word_count dims ≡ d * word_count dims = ap (λ n. n * word_count dims) l.0 in
    omega (arith, last_is_last dims indices b.1 l.1, e)

pub ends_last : (dims indices : List ℕ) → AreBelow dims indices → suc (row_major dims indices) ≡ word_count dims → AreLast dims indices
ends_last [] [] b e = tt
ends_last [] (i ∷ indices) b e = absurd b
ends_last (d ∷ dims) [] b e = absurd b
ends_last (d ∷ dims) (i ∷ indices) b e =
    let inner : row_major dims indices < word_count dims = element_below dims indices b.1 in
    let not_last : nat_lt (suc i) d ≡ true → suc i ≡ d = λ more. (let row : suc (suc i) ≤ d = omega (arith, ltb-true (suc i) d more) in absurd (omega (arith, inner, e, mul-le-mul_right (word_count dims) row))) in
    let same : suc i ≡ d = either (nat_lt (suc i) d) (λ more. not_last more) (λ less. omega (arith, b.0, ltb-false (suc i) d less)) in
    let f : suc i * word_count dims ≡ d * word_count dims = ap (λ n. n * word_count dims) same in
    (same, ends_last dims indices b.1 (omega (arith, inner, e, f)))
