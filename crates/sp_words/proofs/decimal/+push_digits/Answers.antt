use Rattle.std.proofs.Common.{◌+◌, ◌∙◌, ◌++◌, append-nil, map, sym, ap, arith}
use Rattle.std.specs.Prelude.{string_bytes}
use Rattle.std.proofs.lemmas.Result.{on_ok_weaker}
use Rattle.sp_words.proofs.DecimalLemmas.{digits_none, digit_small, digits_joined}
use Rattle.sp_words.proofs.decimal.+push_digits.Goals as goal

pub returns-then-numerator-eq0 : goal.returns-then-numerator-eq0
returns-then-numerator-eq0 t c =
    sym (ap (λ ds. string_bytes c.args.text.now ++ map (λ digit. 48 + digit) ds) (digits_none c.args.frac c.args.numerator c.if-numerator-eq0.true)
    ∙ append-nil (string_bytes c.args.text.now))

pub overflow_cast-digit-2 : goal.overflow_cast-digit-2
overflow_cast-digit-2 t c = omega (arith, digit_small c.args.frac c.args.numerator c.requires.below_one)

pub overflow_add-digit : goal.overflow_add-digit
overflow_add-digit t c = omega (arith, digit_small c.args.frac c.args.numerator c.requires.below_one)

pub returns : goal.returns
returns t c =
    on_ok_weaker c.push_digits.result
    (digits_joined c.args.frac c.args.numerator c.from.result _ (string_bytes c.args.text.now) (string_bytes c.push.new.self) (string_bytes c.push_digits.new.text)
    c.if-numerator-eq0.false c.requires.below_one c.requires.in_a_word c.from.ensures c.in_ok-push.ensures.bytes c.in_ok-push.ensures.ascii)
    c.push_digits.ensures
