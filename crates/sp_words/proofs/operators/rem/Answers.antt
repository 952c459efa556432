use Rattle.std.proofs.Common.{subst, sym, ◌≡◌, ◌∙◌, arith}
use Rattle.std.specs.Prelude.{pos}
use Rattle.std.specs.Int.{w128, cast_signed, cast_unsigned}
use Rattle.std.proofs.lemmas.Int.{ints}
use Rattle.sp_words.specs.Words.{IsWord}
use Rattle.sp_words.proofs.LawLemmas.{rem-GivesWords}
use Rattle.sp_words.proofs.OperatorLemmas.{rem-zero_is, rem_is}
use Rattle.sp_words.proofs.operators.rem.Goals as goal

pub returns-then-divisor-eq0-clause-value : goal.returns-then-divisor-eq0-clause-value
returns-then-divisor-eq0-clause-value c =
    let zero_divisor : c.value-divisor.result ≡ pos 0 = omega (arith, ints) in
    rem-zero_is c.args.ty c.args.a c.args.b c.requires.left (sym c.value-divisor.ensures ∙ zero_divisor)

pub returns-clause-value : goal.returns-clause-value
returns-clause-value c =
    let same_dividend : cast_signed w128 (cast_unsigned w128 c.value-dividend.result) ≡ c.value-dividend.result = omega (arith, ints) in
    let same_divisor : cast_signed w128 (cast_unsigned w128 c.value-divisor.result) ≡ c.value-divisor.result = omega (arith, ints) in
    c.word_of.ensures
    ∙ rw (c.unsigned_abs.ensures.value, c.unsigned_abs-2.ensures.value, same_dividend ∙ c.value-dividend.ensures, same_divisor ∙ c.value-divisor.ensures)
    (rem_is c.args.ty c.args.a c.args.b)

pub returns-clause-is_word : goal.returns-clause-is_word
returns-clause-is_word c = subst (IsWord c.args.ty) (sym (returns-clause-value c)) (rem-GivesWords c.args.ty c.args.a c.args.b c.requires.left c.requires.right)
