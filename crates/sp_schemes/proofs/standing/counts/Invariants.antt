use Rattle.std.proofs.Common.{◌≡◌, ◌++◌, ◌≤◌, drop}
use Rattle.sp_schemes.specs.Places.{counts_from}
use Rattle.sp_schemes.proofs.standing.counts.Given as goal

abbrev pub invariant-loop-mark : goal.invariant-loop-mark
invariant-loop-mark l = (l.counts.items ++ counts_from l.count (drop l.mark-index l.marks) ≡ counts_from 0 l.marks) × (l.count ≤ l.mark-index)
