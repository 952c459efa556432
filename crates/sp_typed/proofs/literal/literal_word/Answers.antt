use Rattle.std.proofs.Common.{rules, sym, ◌≡◌, ◌∙◌, ap, true}
use Rattle.sp_words.specs.Decimal.{decimal_value}
use Rattle.sp_reader.specs.Plain.{plain_digits}
use Rattle.sp_types.specs.Literal.{are_digits, may_stand, word_in_range, literal_word}
use Rattle.sp_types.proofs.LiteralLemmas.{made_word, literal_made}
use Rattle.sp_typed.proofs.literal.literal_word.Goals as goal

pub returns-else-not-may_stand : goal.returns-else-not-may_stand
returns-else-not-may_stand c =
    let ty = c.args.ty in
    let d = c.args.number.now in
    let digits : are_digits d.digits.items ≡ true = ap are_digits (sym c.deref.ensures.value) ∙ sym c.are_digits.ensures ∙ c.if-not-are_digits.false in
    let stands : may_stand ty d.digits.items ≡ true = ap (may_stand ty) (sym c.deref-in-Fix.ensures.value) ∙ sym c.may_stand.ensures ∙ c.if-not-may_stand.false in
    let made = made_word ty (decimal_value ty d.negative d.whole c.deref-in-Fix-2.result.now) c.of_decimal.result c.of_decimal.ensures.exists c.of_decimal.ensures.is_word c.of_decimal.ensures.value in
    literal_made ty c.in-Fix.field-0 (plain_digits d) c.of_decimal.result c.in-Fix.is digits stands
    (made ∙ ap (λ ds. word_in_range ty (decimal_value ty d.negative d.whole ds)) c.deref-in-Fix-2.ensures.value)

pub returns-then-not-are_digits : goal.returns-then-not-are_digits
unfolding literal_word
returns-then-not-are_digits c = search rules

pub returns-then-not-may_stand : goal.returns-then-not-may_stand
unfolding literal_word
returns-then-not-may_stand c = search rules

pub returns-in-Bit : goal.returns-in-Bit
unfolding literal_word
returns-in-Bit c = search rules
