use Rattle.std.proofs.Common.{◌≡◌, ◌≤◌, map, take}
use Rattle.std.specs.List.{count_by}
use Rattle.sp_tree.specs.Plain.{plain_mem}
use Rattle.sp_sugar.specs.Numbers.{is_on_dram}
use Rattle.sp_operations.proofs.numbers.dram_number.Given as goal

abbrev pub invariant-loop-i : goal.invariant-loop-i
invariant-loop-i l = record { counted : l.number ≡ count_by is_on_dram (take l.i (map plain_mem l.mems)); bound : l.number ≤ l.i }
