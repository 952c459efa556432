-- What a word of `Int` stands for, the length of a sum of forms, and one operation more.
use Rattle.std.proofs.Common.{zero, suc, ◌^◌, ◌<◌, ◌≤◌, ◌≡◌, ℕ, true, false, ℤ, pos, ◌-ℤ◌, List, [], ◌∷◌, ◌++◌, length, refl, ap, arith}
use Rattle.std.specs.Prelude.{Option, nat_le, if◌then◌else◌, IfSome}
use Rattle.sp_words.specs.Types.{int_type}
use Rattle.sp_words.specs.Words.{value_of, has_sign}
use Rattle.sp_affine.specs.Affine.{Affine}
use Rattle.sp_affine.specs.Combination.{sums, differences}
use Rattle.sp_patterns.specs.declared.place.CounterPlace.{CounterPlace}
use Rattle.sp_patterns.specs.Forms.{HaveCounters, nearest_coefs}

pub small_value : (w : ℕ) → w < 2 ^ 31 → value_of int_type w ≡ pos w
unfolding value_of has_sign
small_value w h = ap (λ b. if b then pos w -ℤ pos (2 ^ 32) else pos w) (not_reached w h)
  where
    not_reached : (w : ℕ) → w < 2 ^ 31 → nat_le (2 ^ 31) w ≡ false
    not_reached w h = grind arith

pub negative_value : (w : ℕ) → 2 ^ 31 ≤ w → value_of int_type w ≡ pos w -ℤ pos (2 ^ 32)
unfolding value_of has_sign
negative_value w h = ap (λ b. if b then pos w -ℤ pos (2 ^ 32) else pos w) (reached w h)
  where
    reached : (w : ℕ) → 2 ^ 31 ≤ w → nat_le (2 ^ 31) w ≡ true
    reached w h = grind arith

pub length_sums : (xs ys : List ℤ) → length xs ≡ length ys → length (sums xs ys) ≡ length xs
length_sums [] ys e = refl
length_sums (x ∷ xs) [] e = absurd (omega arith)
length_sums (x ∷ xs) (y ∷ ys) e = ap suc (length_sums xs ys (omega arith))

pub length_differences : (xs ys : List ℤ) → length xs ≡ length ys → length (differences xs ys) ≡ length xs
length_differences [] ys e = refl
length_differences (x ∷ xs) [] e = absurd (omega arith)
length_differences (x ∷ xs) (y ∷ ys) e = ap suc (length_differences xs ys (omega arith))

one_counter : (n : ℕ) (r : Option Affine) → IfSome r (λ f. length f.coefs ≡ n) → HaveCounters n (r ∷ [])
one_counter n r k zero d less = k
one_counter n r k (suc i) d less = absurd (omega arith)

before : (n : ℕ) (s : Option Affine) (forms : List (Option Affine)) → IfSome s (λ f. length f.coefs ≡ n) → HaveCounters n forms → HaveCounters n (s ∷ forms)
before n s forms h k zero d less = h
before n s forms h k (suc i) d less = k i d (omega arith)

pub one_more_counter : (n : ℕ) (forms : List (Option Affine)) (r : Option Affine) → HaveCounters n forms → IfSome r (λ f. length f.coefs ≡ n) → HaveCounters n (forms ++ r ∷ [])
one_more_counter n [] r h k = one_counter n r k
one_more_counter n (s ∷ forms) r h k =
    before n s (forms ++ r ∷ []) (h 0 s (omega arith)) (one_more_counter n forms r (λ j e small. h (suc j) e (omega arith)) k)

pub length_nearest : (places : List CounterPlace) (c : ℕ) → length (nearest_coefs places c) ≡ length places
length_nearest [] c = refl
length_nearest (p ∷ places) c = ap suc (length_nearest places c)
