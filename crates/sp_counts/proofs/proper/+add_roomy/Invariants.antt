use Rattle.std.proofs.Common.{◌≡◌, ◌++◌, drop, map}
use Rattle.sp_tree.specs.Plain.{plain_mem}
use Rattle.sp_tree.specs.PlainTree.{plain_stmts}
use Rattle.sp_tree.specs.Streams as plain
use Rattle.sp_counts.proofs.proper.+add_roomy.Given as goal

abbrev pub invariant-add_roomy-loop-s : goal.invariant-add_roomy-loop-s
invariant-add_roomy-loop-s l = l.into.items ++ plain.roomy_in (map plain_mem l.mems) (plain_stmts (drop l.s-index l.body)) ≡ l.fn.into.items ++ plain.roomy_in (map plain_mem l.mems) (plain_stmts l.body)
