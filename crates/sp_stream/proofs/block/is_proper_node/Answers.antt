use Rattle.std.proofs.Common.{map, ap, ◌∙◌}
use Rattle.sp_core.specs.CoreParts.{plain_core}
use Rattle.sp_core.specs.Plain.{plain_counter, plain_node, plain_stage_list}
use Rattle.sp_plan.proofs.Trees.{plain_outer}
use Rattle.sp_stream.proofs.BlockLemmas.{proper_outer}
use Rattle.sp_stream.proofs.block.is_proper_node.Goals as goal

pub returns-in-Outer : goal.returns-in-Outer
returns-in-Outer c =
    let is = ap plain_node c.in-Outer.is ∙ plain_outer c.in-Outer.counters c.in-Outer.style c.in-Outer.owned c.in-Outer.stages in
    c.is_proper_block.ensures
    ∙ proper_outer (plain_core c.args.core.now) _ _ _ _ _ _ _ _ is (ap (map plain_counter) c.deref.ensures.value) c.deref-in-Outer.ensures.value (ap plain_stage_list c.deref-in-Outer-2.ensures.value)
