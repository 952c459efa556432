use Rattle.std.proofs.Common.{◌+◌, false, map, length, ap, sym, ◌∙◌, arith}
use Rattle.std.proofs.lemmas.List.{length-map}
use Rattle.sp_core.specs.CoreParts.{plain_core}
use Rattle.sp_core.specs.Numbering.{counters_size, number_count}
use Rattle.sp_core.specs.Plain.{plain_op, plain_counter, plain_node}
use Rattle.sp_plan.specs.Nodes.{site_at}
use Rattle.sp_plan.specs.Sites.{plain_site}
use Rattle.sp_sched.proofs.BodyAt.{body_at}
use Rattle.sp_sched.proofs.Sizes.{small}
use Rattle.sp_sched.proofs.least.schedule.Goals as goal

pub site_at-requires-clause-numbers : goal.site_at-requires-clause-numbers
site_at-requires-clause-numbers c =
    let s = small (plain_core c.args.core.now) c.root.ensures.core in
    let root = ap (λ x. number_count (plain_node x)) c.root.ensures.root in
    omega arith

pub counters_size-requires : goal.counters_size-requires
counters_size-requires c =
    let at = ap (λ x. site_at c.args.node 0 false (plain_node x)) (sym c.root.ensures.root) ∙ sym c.site_at.ensures ∙ ap plain_site c.in-Some.is in
    let body = body_at (plain_core c.args.core.now) c.args.node _ _ _ _ _ c.root.ensures.core at (ap plain_node c.in-Inner.is) in
    let few = body.few in
    let counters = ap (λ xs. counters_size (map plain_counter xs)) c.deref.ensures.value in
    omega (arith, counters)

pub overflow_add-number : goal.overflow_add-number
overflow_add-number c =
    let at = ap (λ x. site_at c.args.node 0 false (plain_node x)) (sym c.root.ensures.root) ∙ sym c.site_at.ensures ∙ ap plain_site c.in-Some.is in
    let body = body_at (plain_core c.args.core.now) c.args.node _ _ _ _ _ c.root.ensures.core at (ap plain_node c.in-Inner.is) in
    let few = body.few in
    let counters = ap (λ xs. counters_size (map plain_counter xs)) c.deref.ensures.value in
    omega (arith, counters)

pub plan_body-requires-clause-few : goal.plan_body-requires-clause-few
plan_body-requires-clause-few c =
    let at = ap (λ x. site_at c.args.node 0 false (plain_node x)) (sym c.root.ensures.root) ∙ sym c.site_at.ensures ∙ ap plain_site c.in-Some.is in
    let body = body_at (plain_core c.args.core.now) c.args.node _ _ _ _ _ c.root.ensures.core at (ap plain_node c.in-Inner.is) in
    let few = body.few in
    let ops = ap length c.deref-in-Inner.ensures.value in
    omega (arith, ops, length-map c.in-Inner.ops.items plain_op)

pub plan_body-requires-clause-fitting : goal.plan_body-requires-clause-fitting
plan_body-requires-clause-fitting c =
    let at = ap (λ x. site_at c.args.node 0 false (plain_node x)) (sym c.root.ensures.root) ∙ sym c.site_at.ensures ∙ ap plain_site c.in-Some.is in
    let body = body_at (plain_core c.args.core.now) c.args.node _ _ _ _ _ c.root.ensures.core at (ap plain_node c.in-Inner.is) in
    rw c.deref-in-Inner.ensures.value (body.fitting c.args.schemes.now (c.in-Some.site.number + c.counters_size.result) c.deref-in-Inner-2.result.now)
