use Rattle.std.proofs.Common.{sym, ◌∙◌}
use Rattle.sp_words.proofs.OperatorLemmas.{sign_test, no_sign}
use Rattle.sp_words.proofs.words.is_negative.Goals as goal

pub returns-then-signed : goal.returns-then-signed
returns-then-signed c = sign_test c.args.ty c.args.word c.width.result c.width.ensures.value (sym c.signed.ensures ∙ c.if-signed.true)

pub returns-else-signed : goal.returns-else-signed
returns-else-signed c = c.if-signed.false ∙ sym (no_sign c.args.ty c.args.word (sym c.signed.ensures ∙ c.if-signed.false))
