use Rattle.std.proofs.Common.{◌≡◌, drop, map}
use Rattle.sp_tree.specs.Streams as plain
use Rattle.std.specs.Prelude.{not}
use Rattle.std.specs.List.{list_all}
use Rattle.sp_counts.specs.Streams.{stage_of}
use Rattle.sp_counts.proofs.stream.are_bounds_still.Given as goal

abbrev pub invariant-loop-stage : goal.invariant-loop-stage
invariant-loop-stage l = list_all (λ (s : plain.StreamStage). not s.bounds.arrays) (map stage_of (drop l.stage-index l.stages)) ≡ list_all (λ (s : plain.StreamStage). not s.bounds.arrays) (map stage_of l.stages)
