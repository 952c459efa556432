use Rattle.std.proofs.Common.{◌≡◌, ◌+◌, drop, map}
use Rattle.sp_tree.specs.Streams as plain
use Rattle.sp_tree.specs.Tallies.{is_among, uses_of}
use Rattle.std.specs.Prelude.{count_by}
use Rattle.sp_counts.specs.Streams.{stage_of}
use Rattle.sp_counts.proofs.stream.count_uses.Given as goal

abbrev pub invariant-loop-stage : goal.invariant-loop-stage
invariant-loop-stage l = l.count + count_by (λ (s : plain.StreamStage). is_among l.m (uses_of s.whole)) (map stage_of (drop l.stage-index l.stages)) ≡ count_by (λ (s : plain.StreamStage). is_among l.m (uses_of s.whole)) (map stage_of l.stages)
