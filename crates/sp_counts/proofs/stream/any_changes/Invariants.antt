use Rattle.std.proofs.Common.{◌≡◌, drop, map}
use Rattle.sp_tree.specs.Streams as plain
use Rattle.sp_tree.specs.Tallies.{is_among, changes_of}
use Rattle.std.specs.List.{list_any}
use Rattle.sp_counts.specs.Streams.{stage_of}
use Rattle.sp_counts.proofs.stream.any_changes.Given as goal

abbrev pub invariant-loop-stage : goal.invariant-loop-stage
invariant-loop-stage l = list_any (λ (s : plain.StreamStage). is_among l.m (changes_of s.whole)) (map stage_of (drop l.stage-index l.stages)) ≡ list_any (λ (s : plain.StreamStage). is_among l.m (changes_of s.whole)) (map stage_of l.stages)
