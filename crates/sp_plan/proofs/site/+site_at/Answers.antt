use Rattle.std.proofs.Common.{◌≡◌, ◌+◌, ◌-◌, false, map, length, ap, ◌∙◌, arith}
use Rattle.std.proofs.lemmas.List.{length-map}
use Rattle.sp_core.specs.Numbering.{node_count, node_count_in, number_count, number_count_in, counters_size}
use Rattle.sp_core.specs.Plain.{plain_op, plain_counter, plain_node, plain_stage_list}
use Rattle.sp_plan.specs.Nodes.{site_at}
use Rattle.sp_plan.proofs.SiteLemmas.{site_in_outer, site_in_fsm, site_in_first, site_in_second}
use Rattle.sp_plan.proofs.Trees.{plain_outer}
use Rattle.sp_plan.proofs.site.+site_at.Goals as goal

pub loop-stage-init : goal.loop-stage-init
loop-stage-init t c =
    let is = ap plain_node c.in-Outer.is ∙ plain_outer c.in-Outer.counters c.in-Outer.style c.in-Outer.owned c.in-Outer.stages in
    let nodes = ap node_count is in
    let numbers = ap number_count is in
    let stages = ap plain_stage_list c.deref-stage-items.ensures.value in
    let stage_nodes = ap node_count_in stages in
    let stage_numbers = ap number_count_in stages in
    let counters = ap (λ xs. counters_size (map plain_counter xs)) c.deref.ensures.value in
    let next : c.args.number + c.counters_size.result ≡ c.args.number + counters_size (map plain_counter c.in-Outer.counters.items) = omega (arith, counters) in (
      site_in_outer c.args.wanted c.args.number _ c.args.streamed _ c.in-Outer.style _ _ _ _ is c.if-wanted-eq0.false next stages,
      omega (arith, numbers, stage_numbers, counters),
      omega (arith, nodes, stage_nodes),
    )

pub returns-in-Fsm : goal.returns-in-Fsm
returns-in-Fsm t c =
    let is = ap plain_node c.in-Fsm.is in
    let from = c.args.number + (c.len.result + c.len-in-Fsm.result) in
    let next : from ≡ c.args.number + (length (map plain_op c.in-Fsm.start.items) + length (map plain_op c.in-Fsm.test.items)) = omega (arith, length-map c.in-Fsm.start.items plain_op, length-map c.in-Fsm.test.items plain_op) in
    c.site_at-in-Fsm.ensures
    ∙ ap (λ x. site_at (c.args.wanted - 1) from false (plain_node x)) c.deref-in-Fsm.ensures
    ∙ site_in_fsm c.args.wanted c.args.number from c.args.streamed _ _ _ _ _ _ is c.if-wanted-eq0.false next

pub returns-then-left-count-2 : goal.returns-then-left-count-2
returns-then-left-count-2 t c =
    let is = ap plain_node c.in-Branch.is in
    let from = c.args.number + c.len-in-Branch.result in
    let next : from ≡ c.args.number + length (map plain_op c.in-Branch.test.items) = omega (arith, length-map c.in-Branch.test.items plain_op) in
    let count = c.count_nodes-count-in-Branch.ensures ∙ ap (λ x. node_count (plain_node x)) c.deref-in-Branch.ensures in
    c.site_at-then-left-count-2.ensures
    ∙ ap (λ x. site_at (c.args.wanted - 1) from false (plain_node x)) c.deref-then-left-count-2.ensures
    ∙ site_in_first c.args.wanted c.args.number c.args.streamed _ _ _ _ from _ is c.if-wanted-eq0.false next count c.if-left-count-2.true

pub returns-else-left-count-2 : goal.returns-else-left-count-2
returns-else-left-count-2 t c =
    let is = ap plain_node c.in-Branch.is in
    let from = c.args.number + c.len-in-Branch.result in
    let next : from ≡ c.args.number + length (map plain_op c.in-Branch.test.items) = omega (arith, length-map c.in-Branch.test.items plain_op) in
    let count = c.count_nodes-count-in-Branch.ensures ∙ ap (λ x. node_count (plain_node x)) c.deref-in-Branch.ensures in
    let numbers = c.count_numbers.ensures ∙ ap (λ x. number_count (plain_node x)) c.deref-else-left-count-2.ensures in
    c.site_at-else-left-count-2.ensures
    ∙ ap (λ x. site_at ((c.args.wanted - 1) - c.count_nodes-count-in-Branch.result) (from + c.count_numbers.result) false (plain_node x)) c.deref-else-left-count-2-2.ensures
    ∙ ap (λ x. site_at ((c.args.wanted - 1) - c.count_nodes-count-in-Branch.result) (from + x) false (plain_node c.in-Branch.no.value)) numbers
    ∙ site_in_second c.args.wanted c.args.number c.args.streamed _ _ _ _ from _ is c.if-wanted-eq0.false next count c.if-left-count-2.false
