use Rattle.std.proofs.Common.{map, ap, sym, ◌∙◌, arith, Bool}
use Rattle.sp_core.specs.CoreParts.{plain_core}
use Rattle.sp_core.specs.Forms.{plain_forms}
use Rattle.sp_core.specs.Numbering.{counters_size, number_count, number_count_in}
use Rattle.sp_core.specs.Plain.{plain_counter, plain_node, plain_stage_list}
use Rattle.sp_core.specs.PlainCore.{PlainNode, outer}
use Rattle.sp_plan.proofs.Trees.{plain_outer}
use Rattle.sp_plan.specs.Plain.{plain_node_plan}
use Rattle.sp_plan.specs.Validity.{are_runs_right}
use Rattle.sp_valid.proofs.nodes.are_runs_right.Goals as goal
use Rattle.sp_valid.specs.Plans.{plan_of}

pub are_stages_right-requires : goal.are_stages_right-requires
are_stages_right-requires c =
    let is = ap plain_node c.in-Outer.is ∙ plain_outer c.in-Outer.counters c.in-Outer.style c.in-Outer.owned c.in-Outer.stages in
    let whole = ap number_count is in
    let counters = ap (λ xs. counters_size (map plain_counter xs)) c.deref.ensures.value in
    let stages = ap (λ xs. number_count_in (plain_stage_list xs)) c.deref-in-Outer-2.ensures.value in
    let r = c.requires in
    omega (arith, whole, counters, stages, r)

pub returns-in-Outer : goal.returns-in-Outer
returns-in-Outer c =
    let is = ap plain_node c.in-Outer.is ∙ plain_outer c.in-Outer.counters c.in-Outer.style c.in-Outer.owned c.in-Outer.stages in
    let R : PlainNode → Bool = λ x. are_runs_right (plain_core c.args.core.now) (plain_forms c.args.forms.now) c.args.meets.now (plan_of c.args.mems.now c.args.nodes.now) c.args.number x (plain_node_plan c.args.planned.now) in
    c.are_stages_right.ensures
    ∙ ap (λ xs. R (outer (map plain_counter xs) c.in-Outer.style c.deref-in-Outer.result.now (plain_stage_list c.deref-in-Outer-2.result.now))) c.deref.ensures.value
    ∙ ap (λ xs. R (outer (map plain_counter c.in-Outer.counters.items) c.in-Outer.style xs (plain_stage_list c.deref-in-Outer-2.result.now))) c.deref-in-Outer.ensures.value
    ∙ ap (λ xs. R (outer (map plain_counter c.in-Outer.counters.items) c.in-Outer.style c.in-Outer.owned.items (plain_stage_list xs))) c.deref-in-Outer-2.ensures.value
    ∙ sym (ap R is)
