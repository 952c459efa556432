use Rattle.std.proofs.Common.{◌+◌, false, map, ap, sym, ◌∙◌, arith}
use Rattle.sp_core.specs.CoreParts.{plain_core}
use Rattle.sp_core.specs.Numbering.{counters_size, number_count, number_count_in, node_count, node_count_in}
use Rattle.sp_core.specs.Plain.{plain_counter, plain_node, plain_stage_list}
use Rattle.sp_plan.specs.Nodes.{site_at}
use Rattle.sp_plan.specs.Sites.{plain_site}
use Rattle.sp_plan.specs.Slots.{runs_of}
use Rattle.sp_plan.proofs.Trees.{plain_outer}
use Rattle.sp_stages.proofs.FinestAt.{ok_like, same_body, finest_at}
use Rattle.sp_stages.proofs.Sizes.{small, site_within}
use Rattle.sp_stages.specs.Finest.{are_in_place}
use Rattle.sp_stages.proofs.PlacedAt.{placed_at}
use Rattle.sp_stages.proofs.finest.slots.Goals as goal

pub site_at-requires-clause-numbers : goal.site_at-requires-clause-numbers
site_at-requires-clause-numbers c =
    let s = small (plain_core c.args.core.now) c.root.ensures.core in
    let root = ap (λ x. number_count (plain_node x)) c.root.ensures.root in
    omega arith

pub counters_size-requires : goal.counters_size-requires
counters_size-requires c =
    let at = ap (λ x. site_at c.args.node 0 false (plain_node x)) (sym c.root.ensures.root) ∙ sym c.site_at.ensures ∙ ap plain_site c.in-Some.is in
    let within = site_within (plain_core c.args.core.now) c.args.node _ c.root.ensures.core at in
    let numbers = ap number_count (ap plain_node c.in-Outer.is ∙ plain_outer c.in-Outer.counters c.in-Outer.style c.in-Outer.owned c.in-Outer.stages) in
    let counters = ap (λ xs. counters_size (map plain_counter xs)) c.deref.ensures.value in
    omega (arith, within.0, numbers, counters)

pub overflow_add-number : goal.overflow_add-number
overflow_add-number c =
    let at = ap (λ x. site_at c.args.node 0 false (plain_node x)) (sym c.root.ensures.root) ∙ sym c.site_at.ensures ∙ ap plain_site c.in-Some.is in
    let within = site_within (plain_core c.args.core.now) c.args.node _ c.root.ensures.core at in
    let numbers = ap number_count (ap plain_node c.in-Outer.is ∙ plain_outer c.in-Outer.counters c.in-Outer.style c.in-Outer.owned c.in-Outer.stages) in
    let counters = ap (λ xs. counters_size (map plain_counter xs)) c.deref.ensures.value in
    omega (arith, within.0, numbers, counters)

pub body_slots-requires-clause-numbers : goal.body_slots-requires-clause-numbers
body_slots-requires-clause-numbers c =
    let at = ap (λ x. site_at c.args.node 0 false (plain_node x)) (sym c.root.ensures.root) ∙ sym c.site_at.ensures ∙ ap plain_site c.in-Some.is in
    let within = site_within (plain_core c.args.core.now) c.args.node _ c.root.ensures.core at in
    let numbers = ap number_count (ap plain_node c.in-Outer.is ∙ plain_outer c.in-Outer.counters c.in-Outer.style c.in-Outer.owned c.in-Outer.stages) in
    let counters = ap (λ xs. counters_size (map plain_counter xs)) c.deref.ensures.value in
    let stages = ap (λ xs. number_count_in (plain_stage_list xs)) c.deref-in-Outer-3.ensures.value in
    omega (arith, within.0, numbers, counters, stages)

pub body_slots-requires-clause-nodes : goal.body_slots-requires-clause-nodes
body_slots-requires-clause-nodes c =
    let at = ap (λ x. site_at c.args.node 0 false (plain_node x)) (sym c.root.ensures.root) ∙ sym c.site_at.ensures ∙ ap plain_site c.in-Some.is in
    let within = site_within (plain_core c.args.core.now) c.args.node _ c.root.ensures.core at in
    let nodes = ap node_count (ap plain_node c.in-Outer.is ∙ plain_outer c.in-Outer.counters c.in-Outer.style c.in-Outer.owned c.in-Outer.stages) in
    let stages = ap (λ xs. node_count_in (plain_stage_list xs)) c.deref-in-Outer-3.ensures.value in
    omega (arith, within.1, nodes, stages)

pub body_slots-requires-clause-in_place : goal.body_slots-requires-clause-in_place
body_slots-requires-clause-in_place c =
    let at = ap (λ x. site_at c.args.node 0 false (plain_node x)) (sym c.root.ensures.root) ∙ sym c.site_at.ensures ∙ ap plain_site c.in-Some.is in
    let is = ap plain_node c.in-Outer.is ∙ plain_outer c.in-Outer.counters c.in-Outer.style c.in-Outer.owned c.in-Outer.stages in
    let size = c.counters_size.ensures ∙ ap (λ xs. counters_size (map plain_counter xs)) c.deref.ensures.value in
    let runs = ap (λ x. runs_of (c.in-Some.site.number + x) (plain_stage_list c.deref-in-Outer-3.result.now)) size
    ∙ ap (λ xs. runs_of (c.in-Some.site.number + counters_size (map plain_counter c.in-Outer.counters.items)) (plain_stage_list xs)) c.deref-in-Outer-3.ensures.value in
    ap are_in_place runs ∙ placed_at (plain_core c.args.core.now) c.root.ensures.core c.args.node _ _ _ _ _ at is

pub returns-in-Outer : goal.returns-in-Outer
returns-in-Outer c =
    let at = ap (λ x. site_at c.args.node 0 false (plain_node x)) (sym c.root.ensures.root) ∙ sym c.site_at.ensures ∙ ap plain_site c.in-Some.is in
    let is = ap plain_node c.in-Outer.is ∙ plain_outer c.in-Outer.counters c.in-Outer.style c.in-Outer.owned c.in-Outer.stages in
    let size = c.counters_size.ensures ∙ ap (λ xs. counters_size (map plain_counter xs)) c.deref.ensures.value in
    let runs = ap (λ x. runs_of (c.in-Some.site.number + x) (plain_stage_list c.deref-in-Outer-3.result.now)) size
    ∙ ap (λ xs. runs_of (c.in-Some.site.number + counters_size (map plain_counter c.in-Outer.counters.items)) (plain_stage_list xs)) c.deref-in-Outer-3.ensures.value in
    ok_like _ _
    (λ slots e. finest_at (plain_core c.args.core.now) c.args.meets.now.pairs.items c.args.node _ _ _ _ _ slots.items at is
    (same_body (plain_core c.args.core.now) c.in-Outer.style slots.items _ _ _ _ _ _ _ _ c.deref-in-Outer-4.ensures.value (ap (map plain_counter) c.deref-in-Outer.ensures.value) c.deref-in-Outer-2.ensures.value runs e))
    c.body_slots.result c.body_slots.ensures
