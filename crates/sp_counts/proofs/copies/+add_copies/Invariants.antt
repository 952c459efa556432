use Rattle.std.proofs.Common.{◌≡◌, ◌≤◌, ◌++◌, drop, map}
use Rattle.sp_tree.specs.Counts.{lanes_in, copies_in}
use Rattle.sp_tree.specs.Limits.{most_lanes}
use Rattle.sp_tree.specs.PlainTree.{plain_stmts}
use Rattle.sp_counts.specs.Copies.{copy_of}
use Rattle.sp_counts.specs.Stages.{lists_of}
use Rattle.sp_counts.proofs.copies.+add_copies.Given as goal

abbrev pub invariant-add_copies-loop-s : goal.invariant-add_copies-loop-s
invariant-add_copies-loop-s l =
    lanes_in (plain_stmts l.body) l.lanes ≤ most_lanes
    → (lanes_in (plain_stmts (drop l.s-index l.body)) l.lanes ≤ most_lanes)
    × (map copy_of l.out.items ++ copies_in (plain_stmts (drop l.s-index l.body)) l.lanes (lists_of l.stages)
    ≡ map copy_of l.fn.out.items ++ copies_in (plain_stmts l.body) l.lanes (lists_of l.stages))
