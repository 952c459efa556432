use Rattle.std.proofs.Common.{◌≡◌, ◌++◌, ◌≤◌, drop, map}
use Rattle.std.specs.Prelude.{string_bytes}
use Rattle.sp_core.specs.Plain.{plain_mem}
use Rattle.sp_plan.specs.Plain.{plain_mem_plan}
use Rattle.sp_report.specs.Memories.{mem_lines}
use Rattle.sp_report.proofs.memories.push_mems.Given as goal

-- the lines that are left, and lines are no more than memories
abbrev pub invariant-loop-mem : goal.invariant-loop-mem
invariant-loop-mem l =
    (string_bytes l.text ++ mem_lines l.number (map plain_mem (drop l.mem-index l.mems)) (map plain_mem_plan l.left) ≡ string_bytes l.fn.text ++ mem_lines 0 (map plain_mem l.mems) (map plain_mem_plan l.plans))
    × (l.number ≤ l.mem-index)
