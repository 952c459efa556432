-- Types that are one.
use Rattle.std.proofs.Common.{◌≡◌, Bool, true, false, ◌&&◌, Option, Some, None, refl, sym, ◌∙◌, ap, ◌==◌}
use Rattle.std.proofs.lemmas.Bool.{and_parts, and_from, true≢false, eq-eqb, eqb-true}
use Rattle.sp_words.specs.declared.types.Ty.{Ty}
use Rattle.sp_words.specs.declared.types.Ty.TheVariants.{Fix, Bit}
use Rattle.sp_core.specs.Typed.{is_same_flag, is_type, is_given}

flag_same : (a : Bool) → is_same_flag a a ≡ true
flag_same true = refl
flag_same false = refl

flags_one : (a b : Bool) → is_same_flag a b ≡ true → a ≡ b
flags_one true true e = refl
flags_one true false e = absurd (true≢false (sym e))
flags_one false true e = absurd (true≢false (sym e))
flags_one false false e = refl

pub type_same : (a : Ty) → is_type a a ≡ true
type_same Bit = refl
type_same (Fix a) = and_from _ _ (flag_same a.signed) (and_from _ _ (eq-eqb a.whole a.whole refl) (eq-eqb a.frac a.frac refl))

-- one in place of the other
pub type_like : (a b c : Ty) → is_type a b ≡ true → is_type a c ≡ is_type b c
type_like Bit Bit c e = refl
type_like Bit (Fix b) c e = absurd (true≢false (sym e))
type_like (Fix a) Bit c e = absurd (true≢false (sym e))
type_like (Fix a) (Fix b) Bit e = refl
type_like (Fix a) (Fix b) (Fix c) e =
    let p = and_parts (is_same_flag a.signed b.signed) ((a.whole == b.whole) && (a.frac == b.frac)) e in
    let q = and_parts (a.whole == b.whole) (a.frac == b.frac) p.1 in
    ap (λ f. is_same_flag f c.signed && ((a.whole == c.whole) && (a.frac == c.frac))) (flags_one a.signed b.signed p.0)
    ∙ ap (λ n. is_same_flag b.signed c.signed && ((n == c.whole) && (a.frac == c.frac))) (eqb-true a.whole b.whole q.0)
    ∙ ap (λ n. is_same_flag b.signed c.signed && ((b.whole == c.whole) && (n == c.frac))) (eqb-true a.frac b.frac q.1)

-- what gives a word of one type and of another one, and what else gives one of the first
pub given_like : (one two : Option Ty) (a b : Ty) → is_given one a ≡ true → is_given one b ≡ true → is_given two a ≡ true → is_given two b ≡ true
given_like None two a b e f g = absurd (true≢false (sym e))
given_like (Some t) None a b e f g = absurd (true≢false (sym g))
given_like (Some t) (Some u) a b e f g = type_like u a b g ∙ sym (type_like t a b e) ∙ f
