use Rattle.std.proofs.Common.{◌≡◌, ◌+◌, ◌≤◌, map, drop}
use Rattle.std.specs.Prelude.{count_by}
use Rattle.sp_tree.specs.Counts.{is_port}
use Rattle.sp_tree.specs.Plain.{plain_mem}
use Rattle.sp_tree.specs.PlainProgram.{PlainMem}
use Rattle.sp_top.proofs.compile.port_count.Given as goal

-- what is counted so far, and what is left
abbrev pub invariant-loop-mem : goal.invariant-loop-mem
invariant-loop-mem l =
    (l.count + count_by (λ (m : PlainMem). is_port m.kind) (map plain_mem (drop l.mem-index l.mems)) ≡ count_by (λ (m : PlainMem). is_port m.kind) (map plain_mem l.mems))
    × (l.count ≤ l.mem-index)
