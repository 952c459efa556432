use Rattle.std.proofs.Common.{rules, arith}
use Rattle.std.proofs.lemmas.Grind.{common_steps}
use Rattle.std.proofs.lemmas.Bool.Decides.{nat_tests}
use Rattle.sp_reader.specs.Numbers.{with_digit}
use Rattle.sp_reader.proofs.number.with_digit.Goals as goal

pub returns : goal.returns
unfolding with_digit
returns c = first_of (search rules, grind (arith, nat_tests))

pub returns-in_err-checked_mul : goal.returns-in_err-checked_mul
unfolding with_digit
returns-in_err-checked_mul c = first_of (search rules, grind (arith, nat_tests))
