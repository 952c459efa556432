-- Types and literals of a program's tree mean what they were printed of.
use Rattle.std.proofs.Common.{◌≡◌, ℕ, zero, suc, ◌-◌, ◌^◌, ◌<◌, ◌≤◌, ◌==◌, not, ◌&&◌, ◌||◌, nat_lt, nat_le, eq-eqb, eqb-true, false-eqb, cond, ℤ, Bool, true, false, if◌then◌else◌, List, [], ◌∷◌, length, Some, None, Option, refl, sym, ap, ◌∙◌, mod-eq_of_lt, arith}
use Rattle.std.specs.Prelude.{pos, neg_ℤ, int_lt, ◌≤ℤ◌, ◌<ℤ◌}
use Rattle.std.specs.Bool.{MatchBool}
use Rattle.std.specs.List.{list_all}
use Rattle.std.proofs.lemmas.Int.{ints}
use Rattle.std.proofs.lemmas.List.Elements.{All-head, All-tail}
use Rattle.sp_words.specs.declared.types.FixTy.{FixTy}
use Rattle.sp_words.specs.declared.types.Ty.{Ty}
use Rattle.sp_words.specs.declared.types.Ty.TheVariants.{Fix, Bit}
use Rattle.sp_words.specs.Decimal.{AreDigits, whole_part, fraction_digits, digits_after_point, decimal_value}
use Rattle.sp_words.specs.Types.{int_type, signed_of, frac_of, width_of, fix_signed, fix_whole, fix_frac}
use Rattle.sp_words.specs.Words.{IsWord, has_sign, value_of}
use Rattle.sp_words.proofs.LawLemmas.{wrap-of-value, value-in_range}
use Rattle.sp_words.proofs.NumberTextLemmas.{printed, read_again}
use Rattle.sp_words.proofs.TypeLemmas.{same_fix}
use Rattle.sp_reader.specs.declared.syntax.expression.SynTy.{SynTy}
use Rattle.sp_reader.specs.PlainTree.{PlainDigits}
use Rattle.sp_printer.specs.Types.{is_int_fix}
use Rattle.sp_printer.specs.Words.{word_at}
use Rattle.sp_printed.specs.Trees.{IsLiteral, IsTypeTree}
use Rattle.sp_types.specs.Literal.{is_in_range, word_in_range, are_digits, is_whole, may_stand, literal_word}
use Rattle.sp_types.specs.Types.{is_type, is_same_flag, type_of}
use Rattle.sp_types.proofs.LiteralLemmas.{some_fixed}

-- ---- types

both : (a b : Bool) → (a && b) ≡ true → (a ≡ true) × (b ≡ true)
both true b e = (refl, e)
both false b e = absurd (cc)

-- a signed type of 32 whole bits is `Int`
pub int_is : (t : FixTy) → is_int_fix t ≡ true → Fix t ≡ int_type
int_is t e =
    let f = both (fix_signed t) _ e in
    let g = both (fix_whole t == 32) (fix_frac t == 0) f.1 in
    ap Fix (same_fix t _ f.0 (eqb-true (fix_whole t) 32 g.0) (eqb-true (fix_frac t) 0 g.1))

pub type_is : {ty : Ty} {t : SynTy} → IsTypeTree ty t → type_of t ≡ Some ty
unfolding type_of
type_is (IsTypeTree.int {t = t} e) = ap (λ x. Some x) (sym (int_is t e))
type_is IsTypeTree.bit = refl
type_is (IsTypeTree.fixed {t = t} e) = sym (some_fixed (fix_signed t) (fix_whole t) (fix_frac t) t refl refl refl)

pub same_type : (ty : Ty) → is_type ty ty ≡ true
same_type Bit = refl
same_type (Fix t) = rw (flag (fix_signed t), eq-eqb (fix_whole t) (fix_whole t) refl, eq-eqb (fix_frac t) (fix_frac t) refl) refl
  where
    flag : (b : Bool) → is_same_flag b b ≡ true
    flag true = refl
    flag false = refl

-- ---- literals

-- a word of a type is kept by taking its lowest bits
pub word_is : (ty : Ty) (w : ℕ) → IsWord ty w → word_at ty w ≡ w
word_is ty w h = mod-eq_of_lt h

abbrev range_test : Bool → ℤ → ℕ → ℕ → Bool
range_test s z h m = cond s (not (int_lt z (neg_ℤ (pos h))) && int_lt z (pos h)) (not (int_lt z (pos 0)) && int_lt z (pos m))

abbrev in_range : Bool → ℤ → ℕ → ℕ → Type 0
in_range s z h m = MatchBool s ((neg_ℤ (pos h) ≤ℤ z) × (z <ℤ pos h)) ((pos 0 ≤ℤ z) × (z <ℤ pos m))

passed : (s : Bool) (z : ℤ) (h m : ℕ) → in_range s z h m → range_test s z h m ≡ true
passed true z h m r = grind (arith, ints)
passed false z h m r = grind (arith, ints)

word_in : (ty : Ty) (w : ℕ) → IsWord ty w → is_in_range ty (value_of ty w) ≡ true
word_in ty w h = passed (signed_of ty) (value_of ty w) (2 ^ (width_of ty - 1)) (2 ^ width_of ty) (value-in_range ty w h)

digits_pass : (ds : List ℕ) → AreDigits ds → list_all (λ d. nat_lt d 10) ds ≡ true
digits_pass [] h = refl
digits_pass (d ∷ ds) h =
    let head = All-head (λ x. x < 10) d ds h in
    let low : nat_lt d 10 ≡ true = grind arith in
    rw (low, digits_pass ds (All-tail (λ x. x < 10) d ds h)) refl

no_bits : (f n : ℕ) → f ≡ 0 → digits_after_point f n ≡ []
unfolding digits_after_point
no_bits zero n e = refl
no_bits (suc f) n e = absurd (omega (arith, e))

-- digits behind a point stand where the type has bits for them
stands_by : (f : ℕ) (ds : List ℕ) → (f ≡ 0 → ds ≡ []) → (is_whole ds || not (f == 0)) ≡ true
stands_by f ds none = go (f == 0) refl
  where
    always : (a : Bool) → (a || true) ≡ true
    always true = refl
    always false = refl

    go : (b : Bool) → (f == 0) ≡ b → (is_whole ds || not b) ≡ true
    go true is = let no_digits = none (eqb-true f 0 is) in rw no_digits refl
    go false is = always (is_whole ds)

stands : (ty : Ty) (w : ℕ) → may_stand ty (fraction_digits ty w) ≡ true
stands ty w = stands_by (frac_of ty) (fraction_digits ty w) (λ e. no_bits (frac_of ty) _ e)

by_tests : (a b : Bool) (r : Option ℕ) → a ≡ true → b ≡ true → (if a then (if b then r else None) else None) ≡ r
by_tests true true r x y = refl
by_tests true false r x y = absurd (cc)
by_tests false b r x y = absurd (cc)

few_digits : (ds : List ℕ) → AreDigits ds → length ds ≤ 64 → are_digits ds ≡ true
few_digits ds h few = let low : nat_le (length ds) 64 ≡ true = grind arith in rw (low, digits_pass ds h) refl

-- the word of the number that is printed of a word is this word
printed_word : (t : FixTy) (w : ℕ) → IsWord (Fix t) w → (d : PlainDigits) → d.negative ≡ has_sign (Fix t) w → d.whole ≡ whole_part (Fix t) w → d.digits ≡ fraction_digits (Fix t) w → literal_word (Fix t) d ≡ Some w
unfolding literal_word
printed_word t w h d sign whole digits =
    let ty = Fix t in
    let again = read_again ty w (has_sign ty w) (whole_part ty w) (fraction_digits ty w) h (printed ty w h) in
    let a : are_digits d.digits ≡ true = ap are_digits digits ∙ few_digits (fraction_digits ty w) again.are_digits again.few in
    let b : may_stand ty d.digits ≡ true = ap (may_stand ty) digits ∙ stands ty w in
    let value : decimal_value ty d.negative d.whole d.digits ≡ value_of ty w =
    ap (λ n. decimal_value ty n d.whole d.digits) sign ∙ ap (λ n. decimal_value ty (has_sign ty w) n d.digits) whole ∙ ap (decimal_value ty (has_sign ty w) (whole_part ty w)) digits ∙ again.value in
    by_tests (are_digits d.digits) (may_stand ty d.digits) (word_in_range ty (decimal_value ty d.negative d.whole d.digits)) a b
    ∙ ap (word_in_range ty) value ∙ rw (word_in ty w h) (ap (λ x. Some x) (wrap-of-value ty w h))

pub literal_is : (t : FixTy) (w : ℕ) (d : PlainDigits) → IsWord (Fix t) w → IsLiteral (Fix t) w d → literal_word (Fix t) d ≡ Some w
literal_is t w d h l =
    let same = word_is (Fix t) w h in
    printed_word t w h d (l.sign ∙ ap (has_sign (Fix t)) same) (l.whole ∙ ap (whole_part (Fix t)) same) (l.digits ∙ ap (fraction_digits (Fix t)) same)

-- a word of `Bit` is the truth that it is printed as
pub truth_is : (w : ℕ) → IsWord Bit w → (if not (w == 0) then 1 else 0) ≡ w
truth_is w h = go (w == 0) refl
  where
    go : (b : Bool) → (w == 0) ≡ b → (if not b then 1 else 0) ≡ w
    go true is = sym (eqb-true w 0 is)
    go false is = let other = false-eqb w 0 (sym is) in omega (arith, h, other)
