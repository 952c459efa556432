use Rattle.std.proofs.Common.{◌≡◌, ◌++◌, drop}
use Rattle.sp_tree.specs.PlainTree.{plain_stmts}
use Rattle.sp_tree.specs.Structure.{stages}
use Rattle.sp_tree.specs.Tallies.{nothing}
use Rattle.sp_counts.specs.Stages.{lists_of}
use Rattle.sp_counts.specs.Tallies.{tally_of}
use Rattle.sp_counts.proofs.stages.stages.Given as goal

abbrev pub invariant-loop-s : goal.invariant-loop-s
invariant-loop-s l = lists_of l.all.items ++ stages (plain_stmts (drop l.s-index l.body)) (tally_of l.before) (tally_of l.tail) ≡ stages (plain_stmts l.body) nothing (tally_of l.tail)
