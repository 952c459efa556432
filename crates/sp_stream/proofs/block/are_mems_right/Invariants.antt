use Rattle.std.proofs.Common.{◌≡◌, map, drop}
use Rattle.sp_core.specs.Plain.{plain_mem, plain_stage_list}
use Rattle.sp_stream.specs.Proper.{nodes_of, are_mems_right}
use Rattle.sp_stream.proofs.block.are_mems_right.Given as goal

abbrev pub invariant-loop-mem : goal.invariant-loop-mem
invariant-loop-mem l =
    (are_mems_right l.owned (nodes_of (plain_stage_list l.stages)) l.m (map plain_mem (drop l.mem-index l.mem-items)) ≡ are_mems_right l.owned (nodes_of (plain_stage_list l.stages)) 0 l.core.mems)
    × (l.m ≡ l.mem-index)
