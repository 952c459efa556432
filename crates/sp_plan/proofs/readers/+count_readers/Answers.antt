use Rattle.std.proofs.Common.{arith, ap, ◌∙◌}
use Rattle.sp_core.specs.CoreParts.{plain_core}
use Rattle.sp_core.specs.Numbering.{node_count, node_count_in}
use Rattle.sp_core.specs.Plain.{plain_node, plain_stage_list}
use Rattle.sp_plan.specs.Copies.{readers, stages_readers}
use Rattle.sp_plan.proofs.Trees.{plain_outer}
use Rattle.sp_plan.proofs.readers.+count_readers.Goals as goal

pub loop-stage-init : goal.loop-stage-init
loop-stage-init t c =
    let is = ap plain_node c.in-Outer.is ∙ plain_outer c.in-Outer.counters c.in-Outer.style c.in-Outer.owned c.in-Outer.stages in
    let e = ap node_count is in
    let d = ap (λ xs. node_count_in (plain_stage_list xs)) c.deref-stage-items.ensures.value in
    let r = ap (readers (plain_core c.args.core.now) c.args.m) is in
    let s = ap (λ xs. stages_readers (plain_core c.args.core.now) c.args.m (plain_stage_list xs)) c.deref-stage-items.ensures.value in
    (omega (arith, r, s), omega (arith, e, d), omega (arith, e, d), omega arith)
