-- The counters of the elements of a memory are those of a loop with literal bounds.
use Rattle.std.proofs.Common.{◌≡◌, ℕ, zero, suc, ◌+◌, ◌-◌, ◌*◌, ◌/◌, ◌^◌, ◌<◌, ◌≤◌, false, List, [], ◌∷◌, ◌++◌, refl, ◌∙◌, ap, arith}
use Rattle.std.proofs.Math.Nat.{mod-eq_of_lt}
use Rattle.std.proofs.lemmas.Int.{ints}
use Rattle.std.specs.Prelude.{pos, ◌+ℤ◌, ◌-ℤ◌, nat_le, map, All, if◌then◌else◌}
use Rattle.sp_words.specs.Interface.{IsCount}
use Rattle.sp_words.specs.Types.{int_type}
use Rattle.sp_words.specs.WholeNumbers.{modulo}
use Rattle.sp_words.specs.Words.{value_of, has_sign, wrap}
use Rattle.sp_tree.specs.Elements.{natural, index_value, count_below, numbers_below, counter_words}
use Rattle.sp_tree.specs.Expressions.{word}
use Rattle.sp_tree.specs.PlainExpression.{expr, literal}
use Rattle.sp_tree.specs.PlainProgram.{PlainProgram}
use Rattle.sp_tree.specs.PlainStatement.{PlainCounter}
use Rattle.sp_tree.specs.Sequential.{counter_range}
use Rattle.sp_tree.specs.Step as step
use Rattle.sp_tree.specs.Store as store
use Rattle.sp_tree.specs.Typing.{Scope, BoundsTyped}
use Rattle.sp_sugar.specs.Combination.{element_counters}
use Rattle.sp_sugar.specs.Early.{counters_of}
use Rattle.sp_sugar.specs.Operations.{literal_op, code}
use Rattle.sp_sugar.specs.Values.{Sources}

abbrev pub element_loops : (first : ℕ) → (dims : List ℕ) → List PlainCounter
element_loops c [] = []
element_loops c (d ∷ dims) = record { number = c; from = expr 0 int_type (literal 0); until = expr 0 int_type (literal d); step = 1; par = 1 } ∷ element_loops (suc c) dims

pub small_value : (w : ℕ) → w < 2 ^ 31 → value_of int_type w ≡ pos w
unfolding value_of has_sign
small_value w h = ap (λ b. if b then pos w -ℤ pos (2 ^ 32) else pos w) (not_reached w h)
  where
    not_reached : (w : ℕ) → w < 2 ^ 31 → nat_le (2 ^ 31) w ≡ false
    not_reached w h = grind arith

pub small_word : (w : ℕ) → w < 2 ^ 32 → wrap int_type (pos w) ≡ w
unfolding wrap modulo
small_word w h = mod-eq_of_lt h

zero_more : (k : ℕ) → pos 0 +ℤ pos (k * 1) ≡ pos k
zero_more k = omega (arith, ints)

so_many : (d : ℕ) → (d + (1 - 1)) / 1 ≡ d
so_many d = omega arith

all_below : (f : ℕ → ℕ) (d n : ℕ) → d ≤ n → ((k : ℕ) → k < n → f k ≡ k) → map f (numbers_below d) ≡ numbers_below d
all_below f zero n le h = refl
all_below f (suc d) n le h = joined (numbers_below d) ∙ ap (λ l. l ++ f d ∷ []) (all_below f d n (omega arith) h) ∙ ap (λ k. numbers_below d ++ k ∷ []) (h d (omega arith))
  where
    joined : (xs : List ℕ) → map f (xs ++ d ∷ []) ≡ map f xs ++ f d ∷ []
    joined [] = refl
    joined (x ∷ xs) = ap (λ l. f x ∷ l) (joined xs)

-- the words of such a counter
pub dimension_words : (d : ℕ) → d < 2 ^ 31 → counter_words 0 d 1 ≡ numbers_below d
dimension_words d lt =
    ap (λ z. map (λ k. wrap int_type (z +ℤ pos (k * 1))) (numbers_below (count_below z (index_value d) 1))) (small_value 0 (omega arith))
    ∙ ap (λ z. map (λ k. wrap int_type (pos 0 +ℤ pos (k * 1))) (numbers_below (count_below (pos 0) z 1))) (small_value d lt)
    ∙ ap (λ n. map (λ k. wrap int_type (pos 0 +ℤ pos (k * 1))) (numbers_below n)) (counted d)
    ∙ all_below (λ k. wrap int_type (pos 0 +ℤ pos (k * 1))) d (2 ^ 31) (omega arith) (λ k below. ap (wrap int_type) (zero_more k) ∙ small_word k (omega arith))
  where
    difference : (d : ℕ) → pos d -ℤ pos 0 ≡ pos d
    difference d = omega (arith, ints)

    counted : (d : ℕ) → count_below (pos 0) (pos d) 1 ≡ d
    counted d = ap (λ z. (natural z + (1 - 1)) / 1) (difference d) ∙ so_many d

pub first_count : (d : ℕ) (dims : List ℕ) → All IsCount (d ∷ dims) → IsCount d
first_count d dims h = h 0 0 (omega arith)

pub other_counts : (d : ℕ) (dims : List ℕ) → All IsCount (d ∷ dims) → All IsCount dims
other_counts d dims h = λ k e lt. h (suc k) e (omega arith)

module _ (p : PlainProgram) where
  pub element_ranges : (c left : ℕ) (s : store.Store) (dims : List ℕ) → All IsCount dims → step.in_order (counter_range p.mems) (element_loops c dims) left s ≡ step.went (map numbers_below dims) left s
  unfolding step.in_order step.pure step.◌>>=◌ word
  element_ranges c left s [] h = refl
  element_ranges c left s (d ∷ dims) h =
      ap (λ r. step.◌>>=◌ (step.in_order (counter_range p.mems) (element_loops (suc c) dims)) (λ rs. step.pure (r ∷ rs)) left s) (dimension_words d (first_count d dims h).1)
      ∙ ap (λ z. step.◌>>=◌ (λ n u. z) (λ rs. step.pure (numbers_below d ∷ rs)) left s) (element_ranges (suc c) left s dims (other_counts d dims h))

  pub elements_typed : (scope : Scope) (c : ℕ) (dims : List ℕ) → All IsCount dims → BoundsTyped p scope (element_loops c dims)
  elements_typed scope c [] h = tt
  elements_typed scope c (d ∷ dims) h = (((omega arith, refl), tt), ((omega (arith, (first_count d dims h).1), refl), tt), (omega arith, omega arith), (omega arith, omega arith), elements_typed scope (suc c) dims (other_counts d dims h))

  pub element_counters_are : (sources : Sources) (r c : ℕ) (dims : List ℕ) → element_counters c dims ≡ counters_of p.mems sources r (element_loops c dims)
  unfolding code
  element_counters_are sources r c [] = refl
  element_counters_are sources r c (d ∷ dims) = ap (λ l. record { number = c; from = literal_op int_type 0 ∷ []; until = literal_op int_type d ∷ []; by = 1; par = 1 } ∷ l) (element_counters_are sources r (suc c) dims)
