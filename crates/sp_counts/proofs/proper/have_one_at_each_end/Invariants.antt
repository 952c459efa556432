use Rattle.std.proofs.Common.{◌≡◌, drop, map}
use Rattle.std.specs.List.{list_all}
use Rattle.sp_tree.specs.Streams as plain
use Rattle.sp_counts.specs.Streams.{stage_of}
use Rattle.sp_counts.proofs.proper.have_one_at_each_end.Given as goal

abbrev pub invariant-loop-m : goal.invariant-loop-m
invariant-loop-m l = list_all (plain.has_one_at_each_end (map stage_of l.stages)) (drop l.m-index l.fifos) ≡ list_all (plain.has_one_at_each_end (map stage_of l.stages)) l.fifos
