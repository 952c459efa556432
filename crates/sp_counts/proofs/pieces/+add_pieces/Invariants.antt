use Rattle.std.proofs.Common.{◌≡◌, ◌≤◌, ◌++◌, drop, map}
use Rattle.sp_tree.specs.Counts.{lanes_in, pieces}
use Rattle.sp_tree.specs.Limits.{most_lanes}
use Rattle.sp_tree.specs.PlainTree.{plain_stmts}
use Rattle.sp_tree.specs.Tallies.{nothing}
use Rattle.sp_counts.specs.Pieces.{piece_of}
use Rattle.sp_counts.specs.Tallies.{tally_of}
use Rattle.sp_counts.proofs.pieces.+add_pieces.Given as goal

abbrev pub invariant-add_pieces-loop-s : goal.invariant-add_pieces-loop-s
invariant-add_pieces-loop-s l =
    lanes_in (plain_stmts l.body) l.lanes ≤ most_lanes
    → (lanes_in (plain_stmts (drop l.s-index l.body)) l.lanes ≤ most_lanes)
    × (map piece_of l.out.items ++ pieces (plain_stmts (drop l.s-index l.body)) l.lanes (tally_of l.before) (tally_of l.tail)
    ≡ map piece_of l.fn.out.items ++ pieces (plain_stmts l.body) l.lanes nothing (tally_of l.tail))
