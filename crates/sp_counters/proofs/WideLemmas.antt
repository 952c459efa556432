-- Words of `Int` in a wider type.
use Rattle.std.proofs.Common.{◌≡◌, ℕ, ◌<◌, ◌^◌, ◌==◌, Bool, true, false, if◌then◌else◌, ℤ, pos, negsuc, ◌+ℤ◌, ◌*ℤ◌, ◌≤ℤ◌, ◌<ℤ◌, neg_ℤ, refl, ap, ap₂, ◌∙◌, arith}
use Rattle.std.specs.Prelude.{int_lt, nat_le}
use Rattle.std.proofs.lemmas.Int.{ints}
use Rattle.std.proofs.Math.Nat.{div-one}
use Rattle.std.proofs.lemmas.Bool.Decides.{nat_tests}
use Rattle.sp_words.specs.Types.{int_type}
use Rattle.sp_words.specs.WholeNumbers.{floor_div}
use Rattle.sp_words.specs.Words.{value_of, wrap, word_add, word_cast, word_lt, has_sign}
use Rattle.sp_words.proofs.LawLemmas.{value-wrap, value-in_range}
use Rattle.sp_words.proofs.OperatorLemmas.{value_natural}
use Rattle.sp_netlist.specs.Signals.{op_word}
use Rattle.sp_netlist.specs.declared.cell.CellOp.TheVariants.{Lt}
use Rattle.sp_counters.specs.Fits.{wide_type}

over_one : (z : ℤ) → floor_div z 1 ≡ z
unfolding floor_div
over_one (pos n) = ap pos (div-one n)
over_one (negsuc n) = ap negsuc (div-one n)

unscaled : (z : ℤ) → floor_div (z *ℤ pos 1) 1 ≡ z
unscaled z = ap (λ y. floor_div y 1) (omega (arith, ints)) ∙ over_one z

pub low_word : (w : ℕ) → word_cast int_type int_type w ≡ wrap int_type (value_of int_type w)
unfolding word_cast
low_word w = ap (wrap int_type) (unscaled (value_of int_type w))

pub narrow_word : (w : ℕ) → word_cast wide_type int_type w ≡ wrap int_type (value_of wide_type w)
unfolding word_cast
narrow_word w = ap (wrap int_type) (unscaled (value_of wide_type w))

wide_word : (w : ℕ) → word_cast int_type wide_type w ≡ wrap wide_type (value_of int_type w)
unfolding word_cast
wide_word w = ap (wrap wide_type) (unscaled (value_of int_type w))

-- a number between these is that of a wide word
wide_enough : (z : ℤ) → neg_ℤ (pos (2 ^ 31)) ≤ℤ z → z <ℤ pos (2 ^ 63) → value_of wide_type (wrap wide_type z) ≡ z
wide_enough z l h = value-wrap wide_type z (omega (arith, ints, l), h)

pub same_number : (w : ℕ) → w < 2 ^ 32 → value_of wide_type (word_cast int_type wide_type w) ≡ value_of int_type w
same_number w l =
    let r = value-in_range int_type w l in
    ap (value_of wide_type) (wide_word w) ∙ wide_enough (value_of int_type w) r.0 (omega (arith, ints, r.1))

no_sign : (h n : ℕ) → n < h → nat_le h n ≡ false
no_sign h n l = grind (arith, nat_tests)

pub plain_number : (n : ℕ) → n < 2 ^ 62 → value_of wide_type n ≡ pos n
unfolding has_sign
plain_number n l = value_natural wide_type n (no_sign (2 ^ 63) n (omega (arith, l)))

-- a sum that doesn't wrap
pub wide_sum : (a b w more : ℕ) → a < 2 ^ 32 → value_of wide_type w ≡ value_of int_type a → b ≡ more → more < 2 ^ 62 → value_of wide_type (word_add wide_type w b) ≡ value_of int_type a +ℤ pos more
unfolding word_add
wide_sum a b w more l e f m =
    let r = value-in_range int_type a l in
    ap (λ z. value_of wide_type (wrap wide_type z)) (ap₂ (λ x y. x +ℤ y) e (ap (value_of wide_type) f ∙ plain_number more m))
    ∙ wide_enough (value_of int_type a +ℤ pos more) (omega (arith, ints, r.0)) (omega (arith, ints, r.1, m))

-- a comparison is a bit
pub less_on : (b : Bool) → ((if b then 1 else 0) == 1) ≡ b
less_on true = refl
less_on false = refl

pub wide_less : (a b : ℕ) → (op_word Lt wide_type a b == 1) ≡ int_lt (value_of wide_type a) (value_of wide_type b)
unfolding word_lt
wide_less a b = less_on (int_lt (value_of wide_type a) (value_of wide_type b))

pub int_less : (a b : ℕ) → (op_word Lt int_type a b == 1) ≡ int_lt (value_of int_type a) (value_of int_type b)
unfolding word_lt
int_less a b = less_on (int_lt (value_of int_type a) (value_of int_type b))
