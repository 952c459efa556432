use Rattle.std.proofs.Common.{arith, ap, ◌∙◌}
use Rattle.sp_core.specs.Numbering.{node_count, node_count_in}
use Rattle.sp_core.specs.Plain.{plain_node, plain_stage_list}
use Rattle.sp_plan.proofs.Trees.{plain_outer}
use Rattle.sp_plan.proofs.size.+count_nodes.Goals as goal

pub loop-stage-init : goal.loop-stage-init
loop-stage-init t c =
    let e = ap node_count (ap plain_node c.in-Outer.is ∙ plain_outer c.in-Outer.counters c.in-Outer.style c.in-Outer.owned c.in-Outer.stages) in
    let d = ap (λ xs. node_count_in (plain_stage_list xs)) c.deref-stage-items.ensures.value in
    (omega (arith, e, d), omega arith)
