use Rattle.std.proofs.Common.{rules, ◌≡◌, ◌+◌, ◌++◌, map, arith, ap, ◌∙◌}
use Rattle.std.specs.Prelude.{string_bytes}
use Rattle.sp_core.specs.Numbering.{node_count, node_count_in}
use Rattle.sp_core.specs.Plain.{plain_counter, plain_node, plain_stage_list}
use Rattle.sp_plan.proofs.Trees.{plain_outer}
use Rattle.sp_plan.specs.Plain.{plain_plan}
use Rattle.sp_plan.specs.PlainPlan.{node_plan}
use Rattle.sp_report.proofs.Outer.{begun}
use Rattle.sp_report.specs.Nodes.{node_line, stage_lines}
use Rattle.sp_report.proofs.nodes.+push_nodes.Goals as goal

pub loop-stage-init : goal.loop-stage-init
loop-stage-init t c =
    let plan = plain_plan c.args.plan.now in
    let is = ap plain_node c.in-Outer.is ∙ plain_outer c.in-Outer.counters c.in-Outer.style c.in-Outer.owned c.in-Outer.stages in
    let items = c.deref-stage-items.ensures.value in
    let line : string_bytes c.push_planned.new.text ≡ string_bytes c.args.text.now ++ node_line c.args.k (plain_node c.args.node.now) (node_plan plan c.args.k) = search rules in (
      ap (λ xs. string_bytes c.push_planned.new.text ++ stage_lines plan (c.args.k + 1) (plain_stage_list xs)) items
          ∙ begun plan c.args.k (plain_node c.args.node.now) (map plain_counter c.in-Outer.counters.items) c.in-Outer.style c.in-Outer.owned.items (plain_stage_list c.in-Outer.stages.items) (string_bytes c.args.text.now) (string_bytes c.push_planned.new.text) is line,
      (let whole = ap node_count is in let count = ap (λ xs. node_count_in (plain_stage_list xs)) items in omega (arith, whole, count)),
    )
