use Rattle.std.proofs.Common.{◌≡◌, length}
use Rattle.sp_reader.specs.Numbers.{number_from}
use Rattle.sp_reader.proofs.number.value.Given as goal

abbrev pub invariant-loop-digits : goal.invariant-loop-digits
invariant-loop-digits l = number_from l.radix l.value l.digits ≡ number_from l.radix 0 l.initial.digits

abbrev pub decreases-loop-digits : goal.decreases-loop-digits
decreases-loop-digits l = length l.digits
