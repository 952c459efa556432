use Rattle.std.proofs.Common.{◌≡◌, ◌++◌, drop}
use Rattle.sp_tree.specs.PlainTree.{plain_stmts}
use Rattle.sp_tree.specs.Structure.{body_uses}
use Rattle.sp_counts.proofs.stages.+add_body_uses.Given as goal

abbrev pub invariant-add_body_uses-loop-s : goal.invariant-add_body_uses-loop-s
invariant-add_body_uses-loop-s l = l.into.items ++ body_uses (plain_stmts (drop l.s-index l.body)) ≡ l.fn.into.items ++ body_uses (plain_stmts l.body)
