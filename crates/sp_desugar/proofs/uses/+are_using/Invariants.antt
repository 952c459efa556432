use Rattle.std.proofs.Common.{◌≡◌, drop}
use Rattle.sp_tree.specs.PlainTree.{plain_stmts}
use Rattle.sp_sugar.specs.Uses.{are_using}
use Rattle.sp_desugar.specs.Names.{among}
use Rattle.sp_desugar.proofs.uses.+are_using.Given as goal

abbrev pub invariant-are_using-loop-s : goal.invariant-are_using-loop-s
invariant-are_using-loop-s l = are_using (among l.now.items) (plain_stmts (drop l.s-index l.body)) ≡ are_using (among l.names) (plain_stmts l.body)
