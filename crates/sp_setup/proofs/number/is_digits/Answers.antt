use Rattle.std.proofs.Common.{sym, ◌∙◌}
use Rattle.sp_setup.proofs.NumberLemmas.{AreDigits-digits_of}
use Rattle.sp_setup.proofs.number.is_digits.Goals as goal

pub returns-then-not-is_empty-clause-digits : goal.returns-then-not-is_empty-clause-digits
returns-then-not-is_empty-clause-digits c = λ yes. AreDigits-digits_of c.args.bytes.now (sym c.are_all_digits.ensures ∙ yes)
