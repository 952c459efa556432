use Rattle.std.proofs.Common.{◌≡◌, drop, map}
use Rattle.std.specs.Prelude.{not, filter}
use Rattle.std.specs.List.{list_all}
use Rattle.sp_tree.specs.Streams as plain
use Rattle.sp_tree.specs.Tallies.{is_among}
use Rattle.sp_counts.specs.Streams.{stage_of}
use Rattle.sp_counts.proofs.proper.are_unchanged.Given as goal

abbrev pub invariant-loop-m : goal.invariant-loop-m
invariant-loop-m l = list_all (plain.is_shared_unchanged (map stage_of l.stages)) (filter (λ m. not (is_among m l.fifos)) (drop l.m-index l.mems)) ≡ list_all (plain.is_shared_unchanged (map stage_of l.stages)) (filter (λ m. not (is_among m l.fifos)) l.mems)
