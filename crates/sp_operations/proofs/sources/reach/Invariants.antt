use Rattle.std.proofs.Common.{◌≡◌, ◌-◌, ◌+◌, length}
use Rattle.sp_operations.specs.Sources.{sources_of}
use Rattle.sp_operations.proofs.sources.reach.Given as goal

abbrev pub invariant-loop-sources : goal.invariant-loop-sources
invariant-loop-sources l = sources_of l.sources.items ≡ sources_of l.initial.sources.items

abbrev pub decreases-loop-sources : goal.decreases-loop-sources
decreases-loop-sources l = l.v + 1 - length l.sources.items
