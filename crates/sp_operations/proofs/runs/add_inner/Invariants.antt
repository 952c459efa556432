use Rattle.std.proofs.Common.{◌≡◌, map, drop}
use Rattle.sp_tree.specs.Plain.{plain_mem}
use Rattle.sp_tree.specs.PlainTree.{plain_stmts}
use Rattle.sp_sugar.specs.Runs.{inner_run}
use Rattle.sp_operations.specs.Running.{run_of}
use Rattle.sp_operations.proofs.runs.add_inner.Given as goal

abbrev pub invariant-loop-s : goal.invariant-loop-s
invariant-loop-s l = inner_run (map plain_mem l.mems) (run_of l.run) (plain_stmts (drop l.s-index l.body)) ≡ inner_run (map plain_mem l.mems) (run_of l.fn.run) (plain_stmts l.body)
