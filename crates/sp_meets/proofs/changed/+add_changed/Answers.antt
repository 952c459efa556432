use Rattle.std.proofs.Common.{◌++◌, map, ap, ◌∙◌}
use Rattle.sp_core.specs.Plain.{plain_counter, plain_node, plain_stage_list}
use Rattle.sp_meets.specs.Around.{changed_by_bounds}
use Rattle.sp_meets.proofs.Trees.{plain_outer}
use Rattle.sp_meets.proofs.WalkLemmas.{outer_changed}
use Rattle.sp_meets.proofs.changed.+add_changed.Goals as goal

pub loop-stage-init : goal.loop-stage-init
loop-stage-init t c =
    let is = ap plain_node c.in-Outer.is ∙ plain_outer c.in-Outer.counters c.in-Outer.style c.in-Outer.owned c.in-Outer.stages in
    let stages = ap plain_stage_list c.deref-stage-items.ensures.value in
    let bounds = c.in_ok-add_bounds-in-Outer.ensures ∙ ap (λ xs. c.args.changed.now.items ++ changed_by_bounds (map plain_counter xs)) c.deref-in-Outer.ensures.value in
    let owned = c.in_ok-add_numbers-in-Outer.ensures ∙ ap (λ xs. c.add_bounds-in-Outer.new.changed.items ++ xs) c.deref-in-Outer-2.ensures.value in
    outer_changed _ _ _ _ _ _ is stages _ _ _ bounds owned
