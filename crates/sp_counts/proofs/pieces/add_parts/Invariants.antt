use Rattle.std.proofs.Common.{◌≡◌, ◌++◌, map}
use Rattle.std.specs.Vec.Iter.{into_iter_items}
use Rattle.sp_tree.specs.Counts.{a_part}
use Rattle.sp_counts.specs.Pieces.{piece_of}
use Rattle.sp_counts.specs.Tallies.{tally_of}
use Rattle.sp_counts.proofs.pieces.add_parts.Given as goal

abbrev pub invariant-loop-part : goal.invariant-loop-part
invariant-loop-part l = map piece_of l.out.items ++ map (a_part l.lanes) (map tally_of (into_iter_items l.part-iterator)) ≡ map piece_of l.fn.out.items ++ map (a_part l.lanes) (map tally_of l.fn.parts.items)
