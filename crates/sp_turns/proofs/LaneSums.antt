-- The lanes of a slice move no more words than the slice has.
use Rattle.std.proofs.Common.{◌≡◌, ℕ, zero, suc, ◌+◌, ◌-◌, ◌*◌, ◌/◌, ◌<◌, ◌≤◌, true, ◌||◌, List, [], ◌∷◌, ◌++◌, refl, sym, ◌∙◌, ap, subst, arith, length-append, ◌==◌}
use Rattle.std.proofs.lemmas.Bool.{eqb-true, false≢true}
use Rattle.std.proofs.lemmas.Nat.{mul-le}
use Rattle.std.proofs.Math.Nat.{add-div_right, div-eq_of_lt, suc-mul}
use Rattle.std.specs.Prelude.{length, map, flat_map}
use Rattle.sp_words.specs.Interface.{word_count}
use Rattle.sp_tree.specs.Elements.{numbers_below, tuples}
use Rattle.sp_tree.specs.Transfers.{has_none, words_in_lane, words_by_lane}
use Rattle.sp_core.specs.Cost.{sum_of}
use Rattle.sp_sugar.proofs.NumberLemmas.{either}
use Rattle.sp_same.proofs.LaneCounts.{numbers_length}

length_map : {A B : Type 0} (f : A → B) (xs : List A) → length (map f xs) ≡ length xs
length_map f [] = refl
length_map f (x ∷ xs) = ap suc (length_map f xs)

product_length : (xs : List ℕ) (ts : List (List ℕ)) → length (flat_map (λ x. map (λ others. x ∷ others) ts) xs) ≡ length xs * length ts
product_length [] ts = omega arith
product_length (x ∷ xs) ts = omega (arith, length-append (map (λ others. x ∷ others) ts) (flat_map (λ x. map (λ others. x ∷ others) ts) xs), length_map (λ others. x ∷ others) ts, product_length xs ts, suc-mul (length xs) (length ts))

-- as many tuples as their lists have elements, multiplied
pub tuple_count : (lists : List (List ℕ)) → length (tuples lists) ≡ word_count (map length lists)
tuple_count [] = refl
tuple_count (xs ∷ lists) = product_length xs (tuples lists) ∙ ap (λ n. length xs * n) (tuple_count lists)

lengths_below : (ns : List ℕ) → map length (map numbers_below ns) ≡ ns
lengths_below [] = refl
lengths_below (n ∷ ns) = ap (λ k. k ∷ map length (map numbers_below ns)) (numbers_length n) ∙ ap (λ l. n ∷ l) (lengths_below ns)

pub offset_count : (ns : List ℕ) → length (tuples (map numbers_below ns)) ≡ word_count ns
offset_count ns = tuple_count (map numbers_below ns) ∙ ap word_count (lengths_below ns)

nothing_times : (n k : ℕ) → n ≡ 0 → n * k ≡ 0
nothing_times n k e = ap (λ m. m * k) e ∙ omega arith

times_nothing : (n k : ℕ) → k ≡ 0 → n * k ≡ 0
times_nothing n k e = ap (λ m. n * m) e ∙ omega arith

pub none_counted : (ns : List ℕ) → has_none ns ≡ true → word_count ns ≡ 0
none_counted [] e = absurd (false≢true e)
none_counted (n ∷ ns) e = either (n == 0)
    (λ f. nothing_times n (word_count ns) (eqb-true n 0 f))
    (λ f. times_nothing n (word_count ns) (none_counted ns (sym (ap (λ b. b || has_none ns) f) ∙ e)))

-- sums over the first numbers
abbrev sum_first : (ℕ → ℕ) → ℕ → ℕ
sum_first f n = sum_of (map f (numbers_below n))

sum_append : (f : ℕ → ℕ) (xs : List ℕ) (x : ℕ) → sum_of (map f (xs ++ x ∷ [])) ≡ sum_of (map f xs) + f x
sum_append f [] x = omega arith
sum_append f (y ∷ xs) x = ap (λ n. f y + n) (sum_append f xs x) ∙ omega arith

sum_last : (f : ℕ → ℕ) (n : ℕ) → sum_first f (suc n) ≡ sum_first f n + f n
sum_last f n = sum_append f (numbers_below n) n

module _ (par : ℕ) (some : 0 < par) where
  -- of a row of so many words lane l moves
  abbrev row_words : (n lane : ℕ) → ℕ
  row_words n lane = (n + (par - 1 - lane)) / par

  -- one word more in the row is one word more in the first lane, and each other lane moves what the one before it did
  next_lane : (n lane : ℕ) → suc lane < par → row_words (suc n) (suc lane) ≡ row_words n lane
  next_lane n lane lt = ap (λ k. k / par) {x = suc n + (par - 1 - suc lane)} {y = n + (par - 1 - lane)} (omega arith)

  first_lane : (n : ℕ) → row_words (suc n) 0 ≡ n / par + 1
  first_lane n = ap (λ k. k / par) {x = suc n + (par - 1 - 0)} {y = n + par} (omega arith) ∙ add-div_right n {k = par} some

  one_more : (n q : ℕ) → suc q ≤ par → sum_first (row_words (suc n)) (suc q) ≡ n / par + 1 + sum_first (row_words n) q
  one_more n zero le = let f = sum_last (row_words (suc n)) 0 in let g = first_lane n in omega (arith, f, g)
  one_more n (suc q) le =
      let f = sum_last (row_words (suc n)) (suc q) in
      let g = one_more n q (omega arith) in
      let h = next_lane n q (omega arith) in
      let l = sum_last (row_words n) q in
      omega (arith, f, g, h, l)

  empty_row : (q : ℕ) → sum_first (row_words 0) q ≡ 0
  empty_row zero = refl
  empty_row (suc q) =
      let none : row_words 0 q ≡ 0 = div-eq_of_lt {n = 0 + (par - 1 - q)} {m = par} (omega arith) in
      omega (arith, sum_last (row_words 0) q, none, empty_row q)

  pub whole_row : (n : ℕ) → sum_first (row_words n) par ≡ n
  whole_row zero = empty_row par
  whole_row (suc n) =
      let here : suc (par - 1) ≡ par = omega arith in
      let grown : sum_first (row_words (suc n)) par ≡ n / par + 1 + sum_first (row_words n) (par - 1) =
      subst (λ k. sum_first (row_words (suc n)) k ≡ n / par + 1 + sum_first (row_words n) (par - 1)) here (one_more n (par - 1) (omega arith)) in
      let all : sum_first (row_words n) par ≡ sum_first (row_words n) (par - 1) + row_words n (par - 1) =
      subst (λ k. sum_first (row_words n) k ≡ sum_first (row_words n) (par - 1) + row_words n (par - 1)) here (sum_last (row_words n) (par - 1)) in
      let last : row_words n (par - 1) ≡ n / par = ap (λ k. k / par) {x = n + (par - 1 - (par - 1))} {y = n} (omega arith) in
      omega (arith, grown, all, last, whole_row n)

sum_times : (n : ℕ) (f : ℕ → ℕ) (xs : List ℕ) → sum_of (map (λ x. n * f x) xs) ≡ n * sum_of (map f xs)
sum_times n f [] = omega arith
sum_times n f (x ∷ xs) = ap (λ k. n * f x + k) (sum_times n f xs) ∙ distribute n (f x) (sum_of (map f xs))
  where
    distribute : (a b c : ℕ) → a * b + a * c ≡ a * (b + c)
    distribute a b c = omega arith

some_lanes : (par : ℕ) → 0 < par → (n : ℕ) (ns : List ℕ) → sum_of (words_by_lane par (n ∷ ns)) ≤ word_count (n ∷ ns)
some_lanes par some n [] = let f = whole_row par some n in omega (arith, f)
some_lanes par some n (m ∷ ns) =
    let f = sum_times n (λ lane. words_in_lane par lane (m ∷ ns)) (numbers_below par) in
    let g : n * sum_of (words_by_lane par (m ∷ ns)) ≤ n * word_count (m ∷ ns) = mul-le n (sum_of (words_by_lane par (m ∷ ns))) n (word_count (m ∷ ns)) (omega arith) (some_lanes par some m ns) in
    omega (arith, f, g)

pub lane_words_within : (par : ℕ) (ns : List ℕ) → (ns ≡ [] → par ≡ 1) → sum_of (words_by_lane par ns) ≤ word_count ns
lane_words_within zero ns one = omega arith
lane_words_within (suc p) [] one = subst (λ k. sum_of (words_by_lane k []) ≤ 1) (sym (one refl)) (omega arith)
lane_words_within (suc p) (n ∷ ns) one = some_lanes (suc p) (omega arith) n ns
