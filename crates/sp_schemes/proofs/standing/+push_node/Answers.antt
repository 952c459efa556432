use Rattle.std.proofs.Common.{rules, ◌≡◌, ◌++◌, map, ap, ◌∙◌}
use Rattle.sp_core.specs.Numbered.{counters_numbers, stages_numbers}
use Rattle.sp_core.specs.Plain.{plain_counter, plain_node, plain_stage_list}
use Rattle.sp_plan.proofs.Trees.{plain_outer}
use Rattle.sp_schemes.proofs.Begun.{begun}
use Rattle.sp_schemes.specs.Places.{marks}
use Rattle.sp_schemes.proofs.standing.+push_node.Goals as goal

pub loop-stage-init : goal.loop-stage-init
loop-stage-init t c =
    let is = ap plain_node c.in-Outer.is ∙ plain_outer c.in-Outer.counters c.in-Outer.style c.in-Outer.owned c.in-Outer.stages in
    let counters = map plain_counter c.in-Outer.counters.items in
    let line : c.push_counters-in-Outer.new.into.items ≡ c.args.into.now.items ++ marks (counters_numbers (map plain_counter c.deref-in-Outer.result.now)) = search rules in
    ap (λ xs. c.push_counters-in-Outer.new.into.items ++ marks (stages_numbers (plain_stage_list xs))) c.deref-stage-items.ensures.value
    ∙ begun (plain_node c.args.node.now) counters c.in-Outer.style c.in-Outer.owned.items (plain_stage_list c.in-Outer.stages.items) c.args.into.now.items c.push_counters-in-Outer.new.into.items is
    (line ∙ ap (λ xs. c.args.into.now.items ++ marks (counters_numbers (map plain_counter xs))) c.deref-in-Outer.ensures.value)
