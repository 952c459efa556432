use Rattle.std.proofs.Common.{◌≡◌, ◌++◌, drop, map}
use Rattle.sp_core.specs.Plain.{plain_mem, plain_stage_list}
use Rattle.sp_unroll.specs.Arranged.{lists_of, is_kept, parts_of}
use Rattle.sp_unroll.proofs.order.+memories.Given as goal

abbrev pub invariant-loop-stage : goal.invariant-loop-stage
invariant-loop-stage l =
    lists_of l.parts.items ++ parts_of (is_kept (map plain_mem l.mems) l.written) (plain_stage_list (drop l.stage-index l.stage-items))
    ≡ lists_of l.initial.parts.items ++ parts_of (is_kept (map plain_mem l.mems) l.written) (plain_stage_list l.stage-items)
