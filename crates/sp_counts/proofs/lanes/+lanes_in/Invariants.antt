use Rattle.std.proofs.Common.{◌≡◌, ◌≤◌, drop, max}
use Rattle.sp_tree.specs.Counts.{lanes_in}
use Rattle.sp_tree.specs.PlainTree.{plain_stmts}
use Rattle.sp_counts.specs.Capped.{most, capped}
use Rattle.sp_counts.proofs.lanes.+lanes_in.Given as goal

abbrev pub invariant-lanes_in-loop-s : goal.invariant-lanes_in-loop-s
invariant-lanes_in-loop-s l = (l.lanes ≤ most) × (l.around ≤ l.lanes) × (capped (max l.lanes (lanes_in (plain_stmts (drop l.s-index l.body)) l.around)) ≡ capped (lanes_in (plain_stmts l.body) l.around))
