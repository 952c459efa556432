use Rattle.std.proofs.Common.{◌≡◌, drop}
use Rattle.sp_tree.specs.PlainTree.{plain_stmts}
use Rattle.sp_tree.specs.Structure.{is_inner}
use Rattle.sp_desugar.proofs.combines.is_inner.Given as goal

abbrev pub invariant-loop-s : goal.invariant-loop-s
invariant-loop-s l = is_inner (plain_stmts (drop l.s-index l.body)) ≡ is_inner (plain_stmts l.body)
