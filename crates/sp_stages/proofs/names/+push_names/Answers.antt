use Rattle.std.proofs.Common.{◌++◌, map, ap, ◌∙◌}
use Rattle.sp_core.specs.CoreParts.{plain_core}
use Rattle.sp_core.specs.Plain.{plain_counter, plain_node, plain_stage_list}
use Rattle.sp_plan.specs.Named.{counters_names}
use Rattle.sp_plan.proofs.Trees.{plain_outer}
use Rattle.sp_plan.specs.Runs.{plain_named}
use Rattle.sp_stages.proofs.NamesLemmas.{names_begin}
use Rattle.sp_stages.proofs.names.+push_names.Goals as goal

pub loop-stage-init : goal.loop-stage-init
loop-stage-init t c =
    let is = ap plain_node c.in-Outer.is ∙ plain_outer c.in-Outer.counters c.in-Outer.style c.in-Outer.owned c.in-Outer.stages in
    let now = c.in_ok-push_counters-in-Outer.ensures ∙ ap (λ xs. map plain_named c.args.into.now.items ++ counters_names (map plain_counter xs)) c.deref-in-Outer.ensures.value in
    let stages = ap plain_stage_list c.deref-stage-items.ensures.value in
    names_begin (plain_core c.args.core.now) _ _ _ _ _ _ _ _ is now stages
