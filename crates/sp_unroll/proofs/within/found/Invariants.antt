use Rattle.std.proofs.Common.{◌≡◌, drop, None}
use Rattle.sp_unroll.specs.Entries.{found_after}
use Rattle.sp_unroll.proofs.within.found.Given as goal

abbrev pub invariant-loop-entry : goal.invariant-loop-entry
invariant-loop-entry l = found_after l.now (drop l.entry-index l.entries) l.key ≡ found_after None l.entries l.key
