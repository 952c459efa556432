use Rattle.std.proofs.Common.{◌≡◌, drop, map}
use Rattle.std.specs.List.{list_all}
use Rattle.sp_core.specs.MemoryRules.{is_mem_right}
use Rattle.sp_core.specs.Plain.{plain_mem}
use Rattle.sp_core.proofs.memory_rules.are_mems_right.Given as goal

abbrev pub invariant-loop-mem : goal.invariant-loop-mem
invariant-loop-mem l = list_all is_mem_right (map plain_mem (drop l.mem-index l.mems)) ≡ list_all is_mem_right (map plain_mem l.mems)
