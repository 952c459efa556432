use Rattle.std.proofs.Common.{◌≡◌, ◌++◌, drop, map}
use Rattle.sp_tree.specs.Plain.{plain_mem}
use Rattle.sp_tree.specs.PlainTree.{plain_stmts}
use Rattle.sp_tree.specs.Streams as plain
use Rattle.sp_counts.proofs.proper.own_fifos.Given as goal

abbrev pub invariant-loop-s : goal.invariant-loop-s
invariant-loop-s l = l.fifos.items ++ plain.own_fifos (map plain_mem l.mems) (plain_stmts (drop l.s-index l.body)) ≡ plain.own_fifos (map plain_mem l.mems) (plain_stmts l.body)
