-- Indices, the elements at them, and the values of counters.
use Rattle.std.specs.Prelude.{ℕ, zero, suc, ◌+◌, ◌-◌, ◌*◌, ◌/◌, nat_lt, Bool, true, false, ◌&&◌, ℤ, pos, negsuc, ◌+ℤ◌, ◌-ℤ◌, List, [], ◌∷◌, ◌++◌, map, flat_map}
use Rattle.sp_words.specs.Interface.{word_count}
use Rattle.sp_words.specs.Types.{int_type}
use Rattle.sp_words.specs.Words.{value_of}

-- the number that an index is, a word of `Int`
abbrev pub index_value : ℕ → ℤ
index_value word = value_of int_type word

-- the natural number that it is, if any, else 0
abbrev pub natural : ℤ → ℕ
natural (pos n) = n
natural (negsuc n) = 0

-- whether a number is from 0 to n - 1
abbrev pub is_below : ℤ → ℕ → Bool
is_below (pos k) n = nat_lt k n
is_below (negsuc k) n = false

-- whether there is one index for each dimension, each inside of it
abbrev pub are_inside : (dims : List ℕ) → (indices : List ℤ) → Bool
are_inside [] [] = true
are_inside (d ∷ dims) (i ∷ indices) = is_below i d && are_inside dims indices
are_inside _ _ = false

-- where the element at these indices stands in row-major order
abbrev pub row_major : (dims : List ℕ) → (indices : List ℕ) → ℕ
row_major (d ∷ dims) (i ∷ indices) = i * word_count dims + row_major dims indices
row_major _ _ = 0

-- 0 to n - 1
abbrev pub numbers_below : ℕ → List ℕ
numbers_below zero = []
numbers_below (suc n) = numbers_below n ++ n ∷ []

-- one element of each list, in every way, the last list's fastest
abbrev pub tuples : {A : Type 0} → List (List A) → List (List A)
tuples [] = [] ∷ []
tuples (xs ∷ lists) = flat_map (λ x. map (λ others. x ∷ others) (tuples lists)) xs

-- how many numbers there are from a up to b, which isn't one of them
abbrev pub length_between : ℤ → ℤ → ℕ
length_between a b = natural (b -ℤ a)

-- how many of a, a + step, a + 2 * step, .. are below b, and which
abbrev pub count_below : ℤ → ℤ → ℕ → ℕ
count_below a b step = (length_between a b + (step - 1)) / step

abbrev pub values_below : ℤ → ℤ → ℕ → List ℤ
values_below a b step = map (λ k. a +ℤ pos (k * step)) (numbers_below (count_below a b step))
