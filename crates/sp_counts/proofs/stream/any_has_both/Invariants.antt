use Rattle.std.proofs.Common.{◌≡◌, drop, map}
use Rattle.sp_tree.specs.Streams as plain
use Rattle.std.specs.Prelude.{◌&&◌}
use Rattle.std.specs.List.{list_any}
use Rattle.sp_counts.specs.Streams.{stage_of}
use Rattle.sp_counts.proofs.stream.any_has_both.Given as goal

abbrev pub invariant-loop-stage : goal.invariant-loop-stage
invariant-loop-stage l = list_any (λ (s : plain.StreamStage). plain.puts_into l.m s && plain.takes_from l.m s) (map stage_of (drop l.stage-index l.stages)) ≡ list_any (λ (s : plain.StreamStage). plain.puts_into l.m s && plain.takes_from l.m s) (map stage_of l.stages)
