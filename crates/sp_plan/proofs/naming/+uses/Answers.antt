use Rattle.std.proofs.Common.{map, ap, sym, ◌∙◌}
use Rattle.std.specs.List.{list_any}
use Rattle.sp_core.specs.CoreParts.{plain_core}
use Rattle.sp_core.specs.Declarations.{is_among}
use Rattle.sp_core.specs.Plain.{plain_counter, plain_node, plain_stage_list}
use Rattle.sp_plan.specs.Named.{counters_names}
use Rattle.sp_plan.proofs.Trees.{plain_outer}
use Rattle.sp_plan.proofs.UsedNames.{stages_use}
use Rattle.sp_plan.proofs.naming.+uses.Goals as goal

pub loop-stage-init : goal.loop-stage-init
loop-stage-init t c =
    let is = ap plain_node c.in-Outer.is ∙ plain_outer c.in-Outer.counters c.in-Outer.style c.in-Outer.owned c.in-Outer.stages in
    let counters = c.counters_use-in-Outer.ensures ∙ ap (λ xs. list_any (is_among c.args.m) (counters_names (map plain_counter xs))) c.deref-in-Outer.ensures.value in
    let stages = ap plain_stage_list c.deref-stage-items.ensures.value in
    stages_use (plain_core c.args.core.now) c.args.m _ _ _ _ _ _ is (sym counters ∙ c.if-counters_use-2.false) stages
