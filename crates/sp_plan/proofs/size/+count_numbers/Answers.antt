use Rattle.std.proofs.Common.{arith, ap, ◌∙◌, map}
use Rattle.sp_core.specs.Numbering.{number_count, number_count_in, counters_size}
use Rattle.sp_core.specs.Plain.{plain_node, plain_stage_list, plain_counter}
use Rattle.sp_plan.proofs.Trees.{plain_outer}
use Rattle.sp_plan.proofs.size.+count_numbers.Goals as goal

pub loop-stage-init : goal.loop-stage-init
loop-stage-init t c =
    let e = ap number_count (ap plain_node c.in-Outer.is ∙ plain_outer c.in-Outer.counters c.in-Outer.style c.in-Outer.owned c.in-Outer.stages) in
    let d = ap (λ xs. number_count_in (plain_stage_list xs)) c.deref-stage-items.ensures.value in
    let f = ap (λ xs. counters_size (map plain_counter xs)) c.deref-in-Outer.ensures.value in
    (omega (arith, e, d, f), omega arith)
