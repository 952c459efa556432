use Rattle.std.proofs.Common.{◌≡◌, ◌+◌, ◌≤◌, drop, map}
use Rattle.std.specs.Prelude.{count_by}
use Rattle.sp_tree.specs.Counts.{is_port}
use Rattle.sp_tree.specs.Plain.{plain_mem}
use Rattle.sp_tree.specs.PlainProgram.{PlainMem}
use Rattle.sp_counts.specs.Capped.{most, capped}
use Rattle.sp_counts.proofs.nodes.count_ports.Given as goal

abbrev pub invariant-loop-mem : goal.invariant-loop-mem
invariant-loop-mem l = (l.total ≤ most) × (capped (l.total + count_by (λ (m : PlainMem). is_port m.kind) (map plain_mem (drop l.mem-index l.mems))) ≡ capped (count_by (λ (m : PlainMem). is_port m.kind) (map plain_mem l.mems)))
