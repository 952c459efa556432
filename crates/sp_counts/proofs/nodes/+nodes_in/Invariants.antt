use Rattle.std.proofs.Common.{◌≡◌, ◌+◌, ◌≤◌, drop}
use Rattle.sp_tree.specs.Counts.{nodes_in}
use Rattle.sp_tree.specs.PlainTree.{plain_stmts}
use Rattle.sp_counts.specs.Capped.{most, capped}
use Rattle.sp_counts.proofs.nodes.+nodes_in.Given as goal

abbrev pub invariant-nodes_in-loop-s : goal.invariant-nodes_in-loop-s
invariant-nodes_in-loop-s l = (l.total ≤ most) × (capped (l.total + nodes_in (plain_stmts (drop l.s-index l.body))) ≡ capped (nodes_in (plain_stmts l.body)))
