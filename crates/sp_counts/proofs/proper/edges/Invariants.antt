use Rattle.std.proofs.Common.{◌≡◌, ◌++◌, drop, map, length}
use Rattle.std.specs.List.{flat_map}
use Rattle.sp_tree.specs.Streams as plain
use Rattle.sp_counts.specs.Streams.{stage_of, edge_of, AreBelow}
use Rattle.sp_counts.proofs.proper.edges.Given as goal

abbrev pub invariant-loop-m : goal.invariant-loop-m
invariant-loop-m l =
    (map edge_of l.all.items ++ flat_map (plain.joined_by (map stage_of l.stages)) (drop l.m-index l.fifos) ≡ flat_map (plain.joined_by (map stage_of l.stages)) l.fifos)
    × AreBelow (length l.stages) (map edge_of l.all.items)
