use Rattle.std.proofs.Common.{◌≤◌, ◌^◌, map, sym, ap, subst, ◌∙◌, arith}
use Rattle.std.proofs.lemmas.List.{length-map}
use Rattle.sp_core.specs.CoreParts.{plain_core}
use Rattle.sp_core.specs.Forms.{plain_forms}
use Rattle.sp_depths.specs.Depths.{depth_of}
use Rattle.sp_plan.specs.Plain.{plain_mem_plan, plain_node_plan}
use Rattle.sp_plans.specs.Planned.{AreBestPlans, mems_by}
use Rattle.sp_plans.proofs.FewReaders.{few_duplicates, few_mems}
use Rattle.sp_plans.proofs.MemLists.{planned_of}
use Rattle.sp_plans.proofs.core_plan.planned.Goals as goal

pub mem_plans-requires-clause-few : goal.mem_plans-requires-clause-few
mem_plans-requires-clause-few c =
    let most = few_mems (plain_core c.args.core.now) c.in_ok-nodes.ensures.core in
    omega (arith, most, c.in_ok-schemes.ensures.count)

pub mem_plans-requires-clause-few_copies : goal.mem_plans-requires-clause-few_copies
mem_plans-requires-clause-few_copies c =
    let core = plain_core c.args.core.now in
    λ m. subst (λ xs. depth_of core (map plain_node_plan xs) m ≤ 2 ^ 30) (sym c.deref-2.ensures.value)
    (c.best_plans_have_few_copies.ensures core c.args.meets.now.pairs.items c.deref.result.now (map plain_node_plan c.in_ok-nodes.nodes.items) c.in_ok-nodes.ensures.core c.in_ok-nodes.ensures.best m)

pub mem_plans-requires-clause-few_duplicates : goal.mem_plans-requires-clause-few_duplicates
mem_plans-requires-clause-few_duplicates c = λ m. few_duplicates (plain_core c.args.core.now) m c.in_ok-nodes.ensures.core

pub returns-clause-chosen : goal.returns-clause-chosen
returns-clause-chosen c =
    let core = plain_core c.args.core.now in
    let meets = c.args.meets.now.pairs.items in
    let schemes = c.in_ok-schemes.schemes.items in
    let nodes = map plain_node_plan c.in_ok-nodes.nodes.items in
    planned_of core (plain_forms c.args.forms.now) meets nodes schemes c.in_ok-schemes.ensures.count c.in_ok-schemes.ensures.chosen
    (length-map c.in_ok-nodes.nodes.items plain_node_plan ∙ c.in_ok-nodes.ensures.count)
    (subst (λ s. AreBestPlans core meets s nodes) c.deref.ensures.value c.in_ok-nodes.ensures.best)
    (map plain_mem_plan c.in_ok-mems.mems.items)
    (c.in_ok-mems.ensures ∙ ap (λ xs. mems_by core (map plain_node_plan xs) 0 schemes) c.deref-2.ensures.value)

pub returns-clause-valid : goal.returns-clause-valid
returns-clause-valid c =
    let core = plain_core c.args.core.now in
    let forms = plain_forms c.args.forms.now in
    let meets = c.args.meets.now.pairs.items in
    let schemes = c.in_ok-schemes.schemes.items in
    let nodes = map plain_node_plan c.in_ok-nodes.nodes.items in
    let mems = map plain_mem_plan c.in_ok-mems.mems.items in
    c.chosen_plans_are_valid.ensures core forms meets (record { mems = mems; nodes = nodes }) c.in_ok-nodes.ensures.core
    (planned_of core forms meets nodes schemes c.in_ok-schemes.ensures.count c.in_ok-schemes.ensures.chosen
    (length-map c.in_ok-nodes.nodes.items plain_node_plan ∙ c.in_ok-nodes.ensures.count)
    (subst (λ s. AreBestPlans core meets s nodes) c.deref.ensures.value c.in_ok-nodes.ensures.best)
    mems
    (c.in_ok-mems.ensures ∙ ap (λ xs. mems_by core (map plain_node_plan xs) 0 schemes) c.deref-2.ensures.value))
