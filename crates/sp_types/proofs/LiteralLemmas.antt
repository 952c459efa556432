-- Types of so many bits, and the words of numbers in a type's range.
use Rattle.std.proofs.Common.{◌≡◌, ℕ, zero, suc, ◌+◌, ◌-◌, ◌^◌, ◌≤◌, ◌<◌, Bool, true, false, cond, not, ◌&&◌, List, length, Option, Some, None, is_some, refl, sym, ap, subst, ◌∙◌, arith, true≢false}
use Rattle.std.specs.Prelude.{ℤ, pos, negsuc, neg_ℤ, ◌≤ℤ◌, ◌<ℤ◌, int_lt, IsSome, IfSome, ◌↔◌}
use Rattle.std.specs.Bool.{MatchBool}
use Rattle.std.proofs.lemmas.Int.{ints}
use Rattle.std.proofs.lemmas.Bool.{le-leb}
use Rattle.std.proofs.lemmas.Grind.{common_steps}
use Rattle.sp_words.specs.declared.types.FixTy.{FixTy}
use Rattle.sp_words.specs.declared.types.Ty.{Ty}
use Rattle.sp_words.specs.declared.types.Ty.TheVariants.{Fix, Bit}
use Rattle.sp_words.specs.Types.{signed_of, width_of, fix_signed, fix_whole, fix_frac}
use Rattle.sp_words.specs.Laws.{IsInRange}
use Rattle.sp_words.specs.Words.{IsWord, value_of, wrap}
use Rattle.sp_words.proofs.LawLemmas.{wrap-of-value}
use Rattle.sp_words.proofs.TypeLemmas.{same_fix}
use Rattle.sp_types.specs.Fixed.{fixed_if, fixed}
use Rattle.sp_words.specs.Decimal.{decimal_value}
use Rattle.sp_reader.specs.PlainTree.{PlainDigits}
use Rattle.sp_types.specs.Literal.{is_in_range, word_in_range, are_digits, may_stand, literal_word}

-- a type of so many bits, by its parts
fixed_by : (s : Bool) (w f : ℕ) (b c : Bool) (p : b ≡ true → 1 ≤ w + f) (q : c ≡ true → w + f ≤ 64) (t : FixTy)
    → b ≡ true → c ≡ true → fix_signed t ≡ s → fix_whole t ≡ w → fix_frac t ≡ f → Some (Fix t) ≡ fixed_if s w f b c p q
fixed_by s w f true true p q t b c es ew ef = ap (λ x. Some (Fix x)) (same_fix t (record { signed = s; whole = w; frac = f; has_bits = p refl; in_a_word = q refl }) es ew ef)
fixed_by s w f true false p q t b c es ew ef = absurd (cc)
fixed_by s w f false c p q t b d es ew ef = absurd (cc)

pub some_fixed : (s : Bool) (w f : ℕ) (t : FixTy) → fix_signed t ≡ s → fix_whole t ≡ w → fix_frac t ≡ f → Some (Fix t) ≡ fixed s w f
some_fixed s w f t es ew ef =
    let least : 1 ≤ w + f = subst (λ n. 1 ≤ n) (ap (λ n. n + fix_frac t) ew ∙ ap (λ n. w + n) ef) t.has_bits in
    let most : w + f ≤ 64 = subst (λ n. n ≤ 64) (ap (λ n. n + fix_frac t) ew ∙ ap (λ n. w + n) ef) t.in_a_word in
    fixed_by s w f _ _ _ _ t (le-leb 1 (w + f) least) (le-leb (w + f) 64 most) es ew ef

abbrev range_test : Bool → ℤ → ℕ → ℕ → Bool
range_test s z h m = cond s (not (int_lt z (neg_ℤ (pos h))) && int_lt z (pos h)) (not (int_lt z (pos 0)) && int_lt z (pos m))

abbrev in_range : Bool → ℤ → ℕ → ℕ → Type 0
in_range s z h m = MatchBool s ((neg_ℤ (pos h) ≤ℤ z) × (z <ℤ pos h)) ((pos 0 ≤ℤ z) × (z <ℤ pos m))

passed : (s : Bool) (z : ℤ) (h m : ℕ) → in_range s z h m → range_test s z h m ≡ true
passed true z h m r = grind (arith, ints)
passed false z h m r = grind (arith, ints)

failed : (s : Bool) (z : ℤ) (h m : ℕ) → range_test s z h m ≡ true → in_range s z h m
failed true z h m e = grind (arith, ints)
failed false z h m e = grind (arith, ints)

at_flag : (b : Bool) (r : Option ℕ) (w : ℕ) → (b ≡ true → r ≡ Some w) → (b ≡ false → r ≡ None) → r ≡ cond b (Some w) None
at_flag true r w f g = f refl
at_flag false r w f g = g refl

no_word : (r : Option ℕ) → (IsSome r → ⊥) → r ≡ None
no_word None h = refl
no_word (Some w) h = absurd (h refl)

a_word : (ty : Ty) (z : ℤ) (r : Option ℕ) → IsSome r → IfSome r (λ w. IsWord ty w) → IfSome r (λ w. value_of ty w ≡ z) → r ≡ Some (wrap ty z)
a_word ty z None some is value = absurd (cc)
a_word ty z (Some w) some is value = ap Some (sym (wrap-of-value ty w is) ∙ ap (wrap ty) value)

-- the word that is made of a number, if there is one
pub made_word : (ty : Ty) (z : ℤ) (r : Option ℕ) → (IsSome r ↔ IsInRange ty z) → IfSome r (λ w. IsWord ty w) → IfSome r (λ w. value_of ty w ≡ z) → r ≡ word_in_range ty z
made_word ty z r exists is value =
    let h = 2 ^ (width_of ty - 1) in
    let m = 2 ^ width_of ty in
    at_flag (is_in_range ty z) r (wrap ty z)
    (λ b. a_word ty z r (exists.1 (failed (signed_of ty) z h m b)) is value)
    (λ b. no_word r (λ some. true≢false (sym (passed (signed_of ty) z h m (exists.0 some)) ∙ b)))

pub both_true : (a b : Bool) (r w : Option ℕ) → a ≡ true → b ≡ true → r ≡ w → r ≡ cond a (cond b w None) None
both_true true true r w f g e = e
both_true true false r w f g e = absurd (cc)
both_true false b r w f g e = absurd (cc)

-- the word of a literal is the one that is made of its number
pub literal_made : (ty : Ty) (fix : FixTy) (d : PlainDigits) (r : Option ℕ) → ty ≡ Fix fix → are_digits d.digits ≡ true → may_stand ty d.digits ≡ true
    → r ≡ word_in_range ty (decimal_value ty d.negative d.whole d.digits) → r ≡ literal_word ty d
unfolding literal_word
literal_made (Fix f) fix d r e a b w = both_true _ _ r _ a b w
literal_made Bit fix d r e a b w = absurd (cc)
