use Rattle.std.proofs.Common.{arith, ap, ◌∙◌, map}
use Rattle.sp_core.specs.Numbering.{counters_size, operation_count, operation_count_in}
use Rattle.sp_core.specs.Plain.{plain_counter, plain_node, plain_stage_list}
use Rattle.sp_core.proofs.TreeLemmas.{plain_node-Outer}
use Rattle.sp_core.proofs.size.+count_operations.Goals as goal

pub loop-stage-init : goal.loop-stage-init
loop-stage-init t c =
    let e = ap operation_count (ap plain_node c.in-Outer.is ∙ plain_node-Outer c.in-Outer.counters c.in-Outer.style c.in-Outer.owned c.in-Outer.stages) in
    let d = ap (λ xs. operation_count_in (plain_stage_list xs)) c.deref-stage-items.ensures.value in
    let g = ap (λ xs. counters_size (map plain_counter xs)) c.deref-in-Outer.ensures.value in
    (omega (arith, c.count_counters-total.ensures), omega (arith, e, d, g, c.count_counters-total.ensures))
