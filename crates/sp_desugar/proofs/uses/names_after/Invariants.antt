use Rattle.std.proofs.Common.{◌≡◌, drop}
use Rattle.sp_tree.specs.PlainTree.{plain_stmts}
use Rattle.sp_sugar.specs.Uses.{names_after}
use Rattle.sp_desugar.specs.Names.{among}
use Rattle.sp_desugar.proofs.uses.names_after.Given as goal

abbrev pub invariant-loop-s : goal.invariant-loop-s
invariant-loop-s l = names_after (among l.after.items) (plain_stmts (drop l.s-index l.body)) ≡ names_after (among l.names) (plain_stmts l.body)
