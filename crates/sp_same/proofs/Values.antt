-- The words of counters, as a program has them, and their values, as a core has them.
use Rattle.std.proofs.Common.{◌≡◌, ℕ, zero, suc, ◌+◌, ◌-◌, ◌*◌, ◌/◌, ◌<◌, ◌≤◌, true, List, [], ◌∷◌, ◌++◌, refl, sym, ◌∙◌, ap, arith, length-append}
use Rattle.std.proofs.lemmas.Int.{ints}
use Rattle.std.proofs.lemmas.Nat.{mul-le}
use Rattle.std.proofs.Math.Nat.{div-mul-le_self}
use Rattle.std.specs.Prelude.{ℤ, pos, negsuc, ◌+ℤ◌, ◌-ℤ◌, int_lt, length, map, flat_map}
use Rattle.sp_words.specs.Types.{int_type}
use Rattle.sp_words.specs.Words.{wrap}
use Rattle.sp_tree.specs.Elements as program
use Rattle.sp_core.specs.Elements as core
use Rattle.sp_sugar.proofs.NumberLemmas.{either}
use Rattle.sp_sugar.proofs.TwinLemmas.{same_natural}
use Rattle.sp_same.proofs.SliceTwins.{same_numbers_below}

-- each element of a list
abbrev pub Each : {A : Type 0} → (A → Type 0) → List A → Type 0
Each P [] = Unit {0}
Each P (x ∷ xs) = P x × Each P xs

pub each_both : {A : Type 0} (P : A → Type 0) (xs ys : List A) → Each P xs → Each P ys → Each P (xs ++ ys)
each_both P [] ys a b = b
each_both P (x ∷ xs) ys a b = (a.0, each_both P xs ys a.1 b)

pub each_map : {A B : Type 0} (P : B → Type 0) (f : A → B) (xs : List A) → Each (λ x. P (f x)) xs → Each P (map f xs)
each_map P f [] a = tt
each_map P f (x ∷ xs) a = (a.0, each_map P f xs a.1)

-- no value of a counter is its bound or above it
below : (a b : ℤ) (m : ℕ) → m < core.length_between a b → int_lt ((a +ℤ pos m) +ℤ pos 0) b ≡ true
below a b m lt = go (b -ℤ a) refl lt
  where
    go : (z : ℤ) → b -ℤ a ≡ z → m < core.natural z → int_lt ((a +ℤ pos m) +ℤ pos 0) b ≡ true
    go (pos n) e lt = either (int_lt ((a +ℤ pos m) +ℤ pos 0) b) (λ f. f) (λ f. absurd (omega (arith, ints, e, f, lt)))
    go (negsuc n) e lt = absurd (omega (arith, lt))

in_steps : (k n step : ℕ) → 1 ≤ step → k < (n + (step - 1)) / step → k * step < n
in_steps k n step le lt =
    let f : (n + (step - 1)) / step * step ≤ n + (step - 1) = div-mul-le_self (n + (step - 1)) step in
    let g : suc k * step ≤ (n + (step - 1)) / step * step = mul-le (suc k) step ((n + (step - 1)) / step) step (omega arith) (omega arith) in
    omega (arith, f, g, le)

-- a value at which the last lane of one stands, and so is live
abbrev pub IsBelow : ℤ → (by : ℕ) → ℤ → Type 0
IsBelow b by v = int_lt (v +ℤ pos (0 * by)) b ≡ true

numbers_each : (n : ℕ) (P : ℕ → Type 0) → ((k : ℕ) → k < n → P k) → Each P (core.numbers_below n)
numbers_each zero P f = tt
numbers_each (suc n) P f = each_both P (core.numbers_below n) (n ∷ []) (numbers_each n P (λ k lt. f k (omega arith))) (f n (omega arith), tt)

pub values_live : (a b : ℤ) (step : ℕ) → 1 ≤ step → Each (IsBelow b step) (core.values_below a b step)
values_live a b step le = each_map (IsBelow b step) (λ k. a +ℤ pos (k * step)) (core.numbers_below (core.count_below a b step))
    (numbers_each (core.count_below a b step) (λ k. IsBelow b step (a +ℤ pos (k * step)))
    (λ k lt. ap (λ n. int_lt ((a +ℤ pos (k * step)) +ℤ pos n) b) {x = 0 * step} {y = 0} (omega arith) ∙ below a b (k * step) (in_steps k (core.length_between a b) step le lt)))

-- as many in both
pub same_count : (a b : ℤ) (step : ℕ) → core.count_below a b step ≡ program.count_below a b step
same_count a b step = ap (λ n. (n + (step - 1)) / step) (same_natural (b -ℤ a))

abbrev pub word_of_value : ℤ → ℕ
word_of_value v = wrap int_type v

map_map : {A B C : Type 0} (f : A → B) (g : B → C) (xs : List A) → map g (map f xs) ≡ map (λ x. g (f x)) xs
map_map f g [] = refl
map_map f g (x ∷ xs) = ap (λ l. g (f x) ∷ l) (map_map f g xs)

pub same_range : (from until step : ℕ) → map word_of_value (core.values_below (core.index_value from) (core.index_value until) step) ≡ program.counter_words from until step
same_range from until step =
    map_map (λ k. core.index_value from +ℤ pos (k * step)) word_of_value (core.numbers_below (core.count_below (core.index_value from) (core.index_value until) step))
    ∙ ap (λ l. map (λ k. word_of_value (core.index_value from +ℤ pos (k * step))) l) (ap core.numbers_below (same_count (core.index_value from) (core.index_value until) step) ∙ same_numbers_below (program.count_below (program.index_value from) (program.index_value until) step))

length_map : {A B : Type 0} (f : A → B) (xs : List A) → length (map f xs) ≡ length xs
length_map f [] = refl
length_map f (x ∷ xs) = ap suc (length_map f xs)

numbers_length : (n : ℕ) → length (program.numbers_below n) ≡ n
numbers_length zero = refl
numbers_length (suc n) = omega (arith, length-append (program.numbers_below n) (n ∷ []), numbers_length n)

pub range_length : (from until step : ℕ) → length (program.counter_words from until step) ≡ core.count_below (core.index_value from) (core.index_value until) step
range_length from until step =
    length_map (λ k. wrap int_type (program.index_value from +ℤ pos (k * step))) (program.numbers_below (program.count_below (program.index_value from) (program.index_value until) step))
    ∙ numbers_length (program.count_below (program.index_value from) (program.index_value until) step) ∙ sym (same_count (core.index_value from) (core.index_value until) step)

-- tuples of words are those of values
map_append : {A B : Type 0} (f : A → B) (xs ys : List A) → map f (xs ++ ys) ≡ map f xs ++ map f ys
map_append f [] ys = refl
map_append f (x ∷ xs) ys = ap (λ l. f x ∷ l) (map_append f xs ys)

module _ {A : Type 0} (f : A → ℕ) where
  map_cons : (x : A) (ts : List (List A)) → map (λ others. f x ∷ others) (map (map f) ts) ≡ map (map f) (map (λ others. x ∷ others) ts)
  map_cons x [] = refl
  map_cons x (t ∷ ts) = ap (λ l. (f x ∷ map f t) ∷ l) (map_cons x ts)

  map_flat : (xs : List A) (ts : List (List A)) → flat_map (λ y. map (λ others. y ∷ others) (map (map f) ts)) (map f xs) ≡ map (map f) (flat_map (λ x. map (λ others. x ∷ others) ts) xs)
  map_flat [] ts = refl
  map_flat (x ∷ xs) ts =
      ap (λ l. l ++ flat_map (λ y. map (λ others. y ∷ others) (map (map f) ts)) (map f xs)) (map_cons x ts)
      ∙ ap (λ l. map (map f) (map (λ others. x ∷ others) ts) ++ l) (map_flat xs ts)
      ∙ sym (map_append (map f) (map (λ others. x ∷ others) ts) (flat_map (λ x. map (λ others. x ∷ others) ts) xs))

  pub tuples_map : (ls : List (List A)) → program.tuples (map (map f) ls) ≡ map (map f) (core.tuples ls)
  tuples_map [] = refl
  tuples_map (xs ∷ ls) = ap (λ ts. flat_map (λ y. map (λ others. y ∷ others) ts) (map f xs)) (tuples_map ls) ∙ map_flat xs (core.tuples ls)

-- tuples of elements that have something each
module _ {A X : Type 0} (P : X → A → Type 0) where
  abbrev pub Fit : List X → List A → Type 0
  Fit [] [] = Unit {0}
  Fit (x ∷ xs) (a ∷ al) = P x a × Fit xs al
  Fit _ _ = ⊥

  abbrev pub FitAll : List X → List (List A) → Type 0
  FitAll [] [] = Unit {0}
  FitAll (x ∷ xs) (l ∷ ls) = Each (P x) l × FitAll xs ls
  FitAll _ _ = ⊥

  one_fits : (x : X) (xs : List X) (a : A) → P x a → (ts : List (List A)) → Each (Fit xs) ts → Each (Fit (x ∷ xs)) (map (λ others. a ∷ others) ts)
  one_fits x xs a h [] e = tt
  one_fits x xs a h (t ∷ ts) e = ((h, e.0), one_fits x xs a h ts e.1)

  all_fit : (x : X) (xs : List X) (ts : List (List A)) → Each (Fit xs) ts → (l : List A) → Each (P x) l → Each (Fit (x ∷ xs)) (flat_map (λ a. map (λ others. a ∷ others) ts) l)
  all_fit x xs ts h [] e = tt
  all_fit x xs ts h (a ∷ l) e = each_both (Fit (x ∷ xs)) (map (λ others. a ∷ others) ts) (flat_map (λ a. map (λ others. a ∷ others) ts) l) (one_fits x xs a e.0 ts h) (all_fit x xs ts h l e.1)

  pub tuples_fit : (xs : List X) (ls : List (List A)) → FitAll xs ls → Each (Fit xs) (core.tuples ls)
  tuples_fit [] [] h = (tt, tt)
  tuples_fit [] (l ∷ ls) h = absurd h
  tuples_fit (x ∷ xs) [] h = absurd h
  tuples_fit (x ∷ xs) (l ∷ ls) h = all_fit x xs (core.tuples ls) (tuples_fit xs ls h.1) l h.0
