use Rattle.std.proofs.Common.{◌≡◌, ◌++◌, drop, map}
use Rattle.std.specs.List.{flat_map}
use Rattle.sp_tree.specs.Streams as plain
use Rattle.sp_tree.specs.Tallies.{uses_of}
use Rattle.sp_counts.specs.Streams.{stage_of}
use Rattle.sp_counts.proofs.proper.all_uses.Given as goal

abbrev pub invariant-loop-stage : goal.invariant-loop-stage
invariant-loop-stage l = l.uses.items ++ flat_map (λ (s : plain.StreamStage). uses_of s.whole) (map stage_of (drop l.stage-index l.stages)) ≡ flat_map (λ (s : plain.StreamStage). uses_of s.whole) (map stage_of l.stages)
