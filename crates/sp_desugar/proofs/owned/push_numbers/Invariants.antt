use Rattle.std.proofs.Common.{◌≡◌, ◌++◌, ◌-◌}
use Rattle.sp_sugar.specs.Numbers.{numbers_from}
use Rattle.sp_desugar.proofs.owned.push_numbers.Given as goal

abbrev pub invariant-loop-n : goal.invariant-loop-n
invariant-loop-n l = l.out.items ++ numbers_from l.n (l.end - l.n) ≡ l.fn.out.items ++ numbers_from l.first (l.end - l.first)
