use Rattle.std.proofs.Common.{Some, ◌≡◌, ◌+◌, ◌*◌, ◌%◌, ◌^◌, ◌≤◌, refl, sym, ap, subst, ◌∙◌, arith}
use Rattle.std.specs.Prelude.{ℤ}
use Rattle.sp_words.specs.Laws.{IsInRange}
use Rattle.sp_words.specs.WholeNumbers.{with_sign}
use Rattle.sp_words.specs.Words.{IsWord, value_of}
use Rattle.sp_words.proofs.DecimalLemmas.{decimal_total, too_great_decimal, none_iff, no_some}
use Rattle.sp_words.proofs.LawLemmas.{wrap-lt, value-wrap}
use Rattle.sp_words.proofs.NumberTextLemmas.{read_in_range, read_again, same_word}
use Rattle.sp_words.proofs.decimal.of_decimal.Goals as goal

pub returns-in_err-scaled-clause-exists : goal.returns-in_err-scaled-clause-exists
returns-in_err-scaled-clause-exists c =
    let big : 2 ^ 128 ≤ c.args.whole * (1 * 2 ^ c.frac-frac.result % 2 ^ 128) + c.fraction-below.result = omega (arith, c.in_err-scaled.ensures) in
    none_iff c.from_residual.result c.from_residual.ensures
    (too_great_decimal c.args.ty c.args.negative c.args.whole c.frac-frac.result c.fraction-below.result c.args.digits.now c.frac-frac.ensures.value c.fraction-below.ensures.value big)

pub returns-in_err-magnitude-clause-exists : goal.returns-in_err-magnitude-clause-exists
returns-in_err-magnitude-clause-exists c =
    let big : 2 ^ 128 ≤ c.args.whole * (1 * 2 ^ c.frac-frac.result % 2 ^ 128) + c.fraction-below.result =
    omega (arith, c.in_err-magnitude.ensures, c.in_ok-scaled.ensures.1) in
    none_iff c.from_residual-in_err-magnitude.result c.from_residual-in_err-magnitude.ensures
    (too_great_decimal c.args.ty c.args.negative c.args.whole c.frac-frac.result c.fraction-below.result c.args.digits.now c.frac-frac.ensures.value c.fraction-below.ensures.value big)

pub returns-then-is_value-clause-exists : goal.returns-then-is_value-clause-exists
returns-then-is_value-clause-exists c =
    let P : ℤ → Type 0 = IsInRange c.args.ty in
    let sum : c.in_ok-magnitude.magnitude ≡ c.args.whole * (1 * 2 ^ c.frac-frac.result % 2 ^ 128) + c.fraction-below.result =
    omega (arith, c.in_ok-scaled.ensures.1, c.in_ok-magnitude.ensures.1) in
    let total = decimal_total c.args.ty c.args.negative c.args.whole c.frac-frac.result c.fraction-below.result c.in_ok-magnitude.magnitude c.args.digits.now c.frac-frac.ensures.value c.fraction-below.ensures.value sum in
    (λ _. subst P total (c.if-is_value.ensures.0 refl), λ _. refl)

pub returns-then-is_value-clause-is_word : goal.returns-then-is_value-clause-is_word
returns-then-is_value-clause-is_word c = subst (IsWord c.args.ty) (sym c.word_of.ensures) (wrap-lt c.args.ty (with_sign c.args.negative c.in_ok-magnitude.magnitude))

pub returns-then-is_value-clause-value : goal.returns-then-is_value-clause-value
returns-then-is_value-clause-value c =
    let sum : c.in_ok-magnitude.magnitude ≡ c.args.whole * (1 * 2 ^ c.frac-frac.result % 2 ^ 128) + c.fraction-below.result =
    omega (arith, c.in_ok-scaled.ensures.1, c.in_ok-magnitude.ensures.1) in
    let total = decimal_total c.args.ty c.args.negative c.args.whole c.frac-frac.result c.fraction-below.result c.in_ok-magnitude.magnitude c.args.digits.now c.frac-frac.ensures.value c.fraction-below.ensures.value sum in
    ap (value_of c.args.ty) c.word_of.ensures
    ∙ value-wrap c.args.ty (with_sign c.args.negative c.in_ok-magnitude.magnitude) (c.if-is_value.ensures.0 refl)
    ∙ total

pub returns-else-is_value-clause-exists : goal.returns-else-is_value-clause-exists
returns-else-is_value-clause-exists c =
    let P : ℤ → Type 0 = IsInRange c.args.ty in
    let sum : c.in_ok-magnitude.magnitude ≡ c.args.whole * (1 * 2 ^ c.frac-frac.result % 2 ^ 128) + c.fraction-below.result =
    omega (arith, c.in_ok-scaled.ensures.1, c.in_ok-magnitude.ensures.1) in
    let total = decimal_total c.args.ty c.args.negative c.args.whole c.frac-frac.result c.fraction-below.result c.in_ok-magnitude.magnitude c.args.digits.now c.frac-frac.ensures.value c.fraction-below.ensures.value sum in
    (λ s. no_some s, λ r. c.if-is_value.ensures.1 (subst P (sym total) r))

pub returns-in_err-scaled-clause-printed : goal.returns-in_err-scaled-clause-printed
returns-in_err-scaled-clause-printed c word h t =
    let big : 2 ^ 128 ≤ c.args.whole * (1 * 2 ^ c.frac-frac.result % 2 ^ 128) + c.fraction-below.result = omega (arith, c.in_err-scaled.ensures) in
    absurd (too_great_decimal c.args.ty c.args.negative c.args.whole c.frac-frac.result c.fraction-below.result c.args.digits.now c.frac-frac.ensures.value c.fraction-below.ensures.value big
    (read_in_range c.args.ty word c.args.negative c.args.whole c.args.digits.now h t))

pub returns-in_err-magnitude-clause-printed : goal.returns-in_err-magnitude-clause-printed
returns-in_err-magnitude-clause-printed c word h t =
    let big : 2 ^ 128 ≤ c.args.whole * (1 * 2 ^ c.frac-frac.result % 2 ^ 128) + c.fraction-below.result =
    omega (arith, c.in_err-magnitude.ensures, c.in_ok-scaled.ensures.1) in
    absurd (too_great_decimal c.args.ty c.args.negative c.args.whole c.frac-frac.result c.fraction-below.result c.args.digits.now c.frac-frac.ensures.value c.fraction-below.ensures.value big
    (read_in_range c.args.ty word c.args.negative c.args.whole c.args.digits.now h t))

pub returns-then-is_value-clause-printed : goal.returns-then-is_value-clause-printed
returns-then-is_value-clause-printed c word h t =
    ap (λ w. Some w)
    (same_word c.args.ty c.word_of.result word (returns-then-is_value-clause-is_word c) h
    (returns-then-is_value-clause-value c ∙ (read_again c.args.ty word c.args.negative c.args.whole c.args.digits.now h t).value))

pub returns-else-is_value-clause-printed : goal.returns-else-is_value-clause-printed
returns-else-is_value-clause-printed c word h t =
    no_some ((returns-else-is_value-clause-exists c).1 (read_in_range c.args.ty word c.args.negative c.args.whole c.args.digits.now h t))
