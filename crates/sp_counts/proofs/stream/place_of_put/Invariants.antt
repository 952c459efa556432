use Rattle.std.proofs.Common.{◌≡◌, drop, map}
use Rattle.std.specs.Prelude.{position}
use Rattle.std.specs.List.{position_from}
use Rattle.sp_tree.specs.Streams as plain
use Rattle.sp_counts.specs.Streams.{stage_of}
use Rattle.sp_counts.proofs.stream.place_of_put.Given as goal

abbrev pub invariant-loop-i : goal.invariant-loop-i
invariant-loop-i l = position_from (plain.puts_into l.m) l.i (map stage_of (drop l.i l.stages)) ≡ position (plain.puts_into l.m) (map stage_of l.stages)
