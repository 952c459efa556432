-- Types with the same parts are the same.
use Rattle.std.proofs.Common.{◌≡◌, ℕ, ◌+◌, ◌≤◌, Bool, ap, ◌∙◌, subst}
use Rattle.std.proofs.Math.Bridge.{le_prop}
use Rattle.sp_words.specs.declared.types.FixTy.{FixTy}
use Rattle.sp_words.specs.Types.{fix_signed, fix_whole, fix_frac}

abbrev made : (s : Bool) (w f : ℕ) → 1 ≤ w + f → w + f ≤ 64 → FixTy
made s w f p q = record { signed = s; whole = w; frac = f; has_bits = p; in_a_word = q }

same_facts : (s : Bool) (w f : ℕ) (p p' : 1 ≤ w + f) (q q' : w + f ≤ 64) → made s w f p q ≡ made s w f p' q'
same_facts s w f p p' q q' = ap (λ r. made s w f r q) (le_prop p p') ∙ ap (λ r. made s w f p' r) (le_prop q q')

pub same_fix : (a b : FixTy) → fix_signed a ≡ fix_signed b → fix_whole a ≡ fix_whole b → fix_frac a ≡ fix_frac b → a ≡ b
same_fix a b es ew ef =
    let at_sign : Bool → Type 0 = λ s. (p : 1 ≤ a.whole + a.frac) (q : a.whole + a.frac ≤ 64) → a ≡ made s a.whole a.frac p q in
    let at_whole : ℕ → Type 0 = λ w. (p : 1 ≤ w + a.frac) (q : w + a.frac ≤ 64) → a ≡ made b.signed w a.frac p q in
    let at_frac : ℕ → Type 0 = λ f. (p : 1 ≤ b.whole + f) (q : b.whole + f ≤ 64) → a ≡ made b.signed b.whole f p q in
    subst at_frac ef (subst at_whole ew (subst at_sign es (λ p q. same_facts a.signed a.whole a.frac a.has_bits p a.in_a_word q))) b.has_bits b.in_a_word
