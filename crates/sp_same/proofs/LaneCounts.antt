-- How many words a slice has, and each lane of it moves.
use Rattle.std.proofs.Common.{◌≡◌, ℕ, zero, suc, ◌+◌, ◌-◌, ◌*◌, ◌/◌, ◌<◌, true, false, ◌||◌, List, [], ◌∷◌, ◌++◌, refl, sym, ◌∙◌, ap, arith, length-append, ◌==◌, nat_lt}
use Rattle.std.proofs.lemmas.Bool.{eqb-true, false≢true, ltb-true, ltb-false}
use Rattle.std.proofs.Math.Nat.{div-eq_of_lt}
use Rattle.std.specs.Prelude.{length, map, flat_map}
use Rattle.sp_tree.specs.Elements as program
use Rattle.sp_tree.specs.Transfers as program_slice
use Rattle.sp_core.specs.Elements as core
use Rattle.sp_core.specs.Shape.{ceil_div, lane_words, last_length, row_count}
use Rattle.sp_sugar.proofs.NumberLemmas.{either}
use Rattle.sp_same.proofs.SliceTwins.{same_numbers_below}

length_map : {A B : Type 0} (f : A → B) (xs : List A) → length (map f xs) ≡ length xs
length_map f [] = refl
length_map f (x ∷ xs) = ap suc (length_map f xs)

pub numbers_length : (n : ℕ) → length (program.numbers_below n) ≡ n
numbers_length zero = refl
numbers_length (suc n) = omega (arith, length-append (program.numbers_below n) (n ∷ []), numbers_length n)

product_length : (xs : List ℕ) (ts : List (List ℕ)) → length (flat_map (λ x. map (λ others. x ∷ others) ts) xs) ≡ length xs * length ts
product_length [] ts = omega arith
product_length (x ∷ xs) ts = omega (arith, length-append (map (λ others. x ∷ others) ts) (flat_map (λ x. map (λ others. x ∷ others) ts) xs), length_map (λ others. x ∷ others) ts, product_length xs ts)

-- in one lane, all words
whole : (n : ℕ) → (n + (1 - 1 - 0)) / 1 ≡ n
whole n = omega arith

pub one_lane : (ns : List ℕ) → length (program.tuples (map program.numbers_below ns)) ≡ program_slice.words_in_lane 1 0 ns
one_lane [] = omega arith
one_lane (n ∷ []) = product_length (program.numbers_below n) ([] ∷ []) ∙ omega (arith, numbers_length n, whole n)
one_lane (n ∷ m ∷ ns) =
    product_length (program.numbers_below n) (program.tuples (map program.numbers_below (m ∷ ns)))
    ∙ ap (λ k. k * length (program.tuples (map program.numbers_below (m ∷ ns)))) (numbers_length n)
    ∙ ap (λ k. n * k) (one_lane (m ∷ ns))

-- none where a range is empty
nothing_times : (n k : ℕ) → n ≡ 0 → n * k ≡ 0
nothing_times n k e = ap (λ m. m * k) e ∙ omega arith

times_nothing : (n k : ℕ) → k ≡ 0 → n * k ≡ 0
times_nothing n k e = ap (λ m. n * m) e ∙ omega arith

pub no_words : (ns : List ℕ) → program_slice.has_none ns ≡ true → program_slice.words_in_lane 1 0 ns ≡ 0
no_words [] e = absurd (false≢true e)
no_words (n ∷ []) e = whole n ∙ either (n == 0) (λ f. eqb-true n 0 f) (λ f. absurd (false≢true (sym (ap (λ b. b || false) f) ∙ e)))
no_words (n ∷ m ∷ ns) e = either (n == 0)
    (λ f. nothing_times n (program_slice.words_in_lane 1 0 (m ∷ ns)) (eqb-true n 0 f))
    (λ f. times_nothing n (program_slice.words_in_lane 1 0 (m ∷ ns)) (no_words (m ∷ ns) (sym (ap (λ b. b || program_slice.has_none (m ∷ ns)) f) ∙ e)))

-- of several lanes each moves the same number in both
short : (n par lane : ℕ) → n < lane → lane < par → (n - lane + (par - 1)) / par ≡ (n + (par - 1 - lane)) / par
short n par lane lt below =
    div-eq_of_lt {n = n - lane + (par - 1)} {m = par} (omega arith) ∙ sym (div-eq_of_lt {n = n + (par - 1 - lane)} {m = par} (omega arith))

in_lane : (n par lane : ℕ) → lane < par → ceil_div (n - lane) par ≡ (n + (par - 1 - lane)) / par
in_lane n par lane below = either (nat_lt n lane)
    (λ f. short n par lane (ltb-true n lane f) below)
    (λ f. ap (λ k. k / par) {x = n - lane + (par - 1)} {y = n + (par - 1 - lane)} (omega (arith, ltb-false n lane f)))

pub lane_same : (ns : List ℕ) (par lane : ℕ) → (ns ≡ [] → ⊥) → lane < par → lane_words (row_count ns) (last_length ns) par lane ≡ program_slice.words_in_lane par lane ns
lane_same [] par lane ne below = absurd (ne refl)
lane_same (n ∷ []) par lane ne below = omega (arith, in_lane n par lane below)
lane_same (n ∷ m ∷ ns) par lane ne below =
    let c : ℕ = ceil_div (last_length (m ∷ ns) - lane) par in
    let again : row_count (m ∷ ns) * c ≡ program_slice.words_in_lane par lane (m ∷ ns) = lane_same (m ∷ ns) par lane (λ e. nonempty m ns e) below in
    regroup n (row_count (m ∷ ns)) c ∙ ap (λ k. n * k) again
  where
    regroup : (a b c : ℕ) → a * b * c ≡ a * (b * c)
    regroup a b c = omega arith

    nonempty : (m : ℕ) (ns : List ℕ) → m ∷ ns ≡ [] → ⊥
    nonempty m ns e = let f : suc (length ns) ≡ 0 = ap length e in omega (arith, f)

map_numbers : (f g : ℕ → ℕ) (n : ℕ) → ((k : ℕ) → k < n → f k ≡ g k) → map f (program.numbers_below n) ≡ map g (program.numbers_below n)
map_numbers f g zero h = refl
map_numbers f g (suc n) h = map_append f (program.numbers_below n) n ∙ ap (λ l. l ++ f n ∷ []) (map_numbers f g n (λ k lt. h k (omega arith))) ∙ ap (λ x. map g (program.numbers_below n) ++ x ∷ []) (h n (omega arith)) ∙ sym (map_append g (program.numbers_below n) n)
  where
    map_append : (f : ℕ → ℕ) (xs : List ℕ) (x : ℕ) → map f (xs ++ x ∷ []) ≡ map f xs ++ f x ∷ []
    map_append f [] x = refl
    map_append f (y ∷ xs) x = ap (λ l. f y ∷ l) (map_append f xs x)

pub lanes_same : (ns : List ℕ) (par : ℕ) → (ns ≡ [] → ⊥) → map (lane_words (row_count ns) (last_length ns) par) (core.numbers_below par) ≡ program_slice.words_by_lane par ns
lanes_same ns par ne =
    ap (λ l. map (lane_words (row_count ns) (last_length ns) par) l) (same_numbers_below par)
    ∙ map_numbers (lane_words (row_count ns) (last_length ns) par) (λ lane. program_slice.words_in_lane par lane ns) par (λ lane lt. lane_same ns par lane ne lt)
