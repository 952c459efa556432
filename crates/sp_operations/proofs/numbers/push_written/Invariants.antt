use Rattle.std.proofs.Common.{◌≡◌, ◌++◌, map, drop}
use Rattle.sp_tree.specs.Plain.{plain_mem}
use Rattle.sp_core.specs.Plain as core
use Rattle.sp_sugar.specs.Numbers.{written_mems}
use Rattle.sp_operations.proofs.numbers.push_written.Given as goal

abbrev pub invariant-loop-mem : goal.invariant-loop-mem
invariant-loop-mem l = map core.plain_mem l.out.items ++ written_mems (map plain_mem (drop l.mem-index l.mems)) ≡ map core.plain_mem l.fn.out.items ++ written_mems (map plain_mem l.mems)
