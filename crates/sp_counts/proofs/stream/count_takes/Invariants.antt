use Rattle.std.proofs.Common.{◌≡◌, ◌+◌, drop, map}
use Rattle.sp_tree.specs.Streams as plain
use Rattle.std.specs.Prelude.{count_by}
use Rattle.sp_counts.specs.Streams.{stage_of}
use Rattle.sp_counts.proofs.stream.count_takes.Given as goal

abbrev pub invariant-loop-stage : goal.invariant-loop-stage
invariant-loop-stage l = l.count + count_by (plain.takes_from l.m) (map stage_of (drop l.stage-index l.stages)) ≡ count_by (plain.takes_from l.m) (map stage_of l.stages)
