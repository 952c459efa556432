use Rattle.std.proofs.Common.{◌+◌, map, arith, ap, sym, ◌∙◌}
use Rattle.sp_core.specs.CoreParts.{plain_core}
use Rattle.sp_core.specs.Forms.{plain_forms}
use Rattle.sp_core.specs.Numbering.{counters_size, number_count, number_count_in}
use Rattle.sp_core.specs.Plain.{plain_counter, plain_node, plain_stage_list}
use Rattle.sp_plan.proofs.Trees.{plain_outer}
use Rattle.sp_serving.specs.Served.{is_served_in, are_stages_served}
use Rattle.sp_serving.proofs.serving.+serves_in.Goals as goal

pub loop-stage-init : goal.loop-stage-init
loop-stage-init t c =
    let core = plain_core c.args.core.now in
    let forms = plain_forms c.args.forms.now in
    let scheme = c.args.scheme.now in
    let is = ap plain_node c.in-Outer.is ∙ plain_outer c.in-Outer.counters c.in-Outer.style c.in-Outer.owned c.in-Outer.stages in
    let size = c.counters_size-in-Outer.ensures ∙ ap (λ xs. counters_size (map plain_counter xs)) c.deref-in-Outer.ensures.value in
    let whole = ap number_count is in
    let items = ap (λ xs. number_count_in (plain_stage_list xs)) c.deref-stage-items.ensures.value in (
      ap (λ k. are_stages_served core forms c.args.m scheme (c.args.number + k) (plain_stage_list c.deref-stage-items.result.now)) size
          ∙ ap (λ xs. are_stages_served core forms c.args.m scheme (c.args.number + counters_size (map plain_counter c.in-Outer.counters.items)) (plain_stage_list xs)) c.deref-stage-items.ensures.value
          ∙ ap (is_served_in core forms c.args.m scheme c.args.number) (sym is),
      (let r = c.requires.small in omega (arith, whole, items, size, r)),
    )
