use Rattle.std.proofs.Common.{◌≡◌, length}
use Rattle.base_tests.proofs.packed.check_writes.Given as goal

abbrev pub invariant-loop-i : goal.invariant-loop-i
invariant-loop-i g l = (l.words.bytes_each ≡ l.bytes_each) × (length l.words.numbers ≡ 5)
