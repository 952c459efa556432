use Rattle.std.proofs.Common.{◌+◌, map, ap, ◌∙◌}
use Rattle.sp_core.specs.CoreParts.{plain_core}
use Rattle.sp_core.specs.Forms.{plain_forms}
use Rattle.sp_core.specs.Numbering.{counters_size}
use Rattle.sp_core.specs.Plain.{plain_op, plain_counter, plain_node}
use Rattle.sp_plan.specs.Bodies.{are_times_right}
use Rattle.sp_plan.specs.Plain.{plain_node_plan, schemes_in}
use Rattle.sp_valid.proofs.nodes.is_timed.Goals as goal
use Rattle.sp_valid.proofs.Schemes.{timed_is}

pub returns-in-Inner-planned : goal.returns-in-Inner-planned
returns-in-Inner-planned c =
    let core = plain_core c.args.core.now in
    let schemes = schemes_in c.args.mems.now in
    let meets = c.args.meets.now in
    let first = c.args.number + c.counters_size.result in
    let st = c.args.streamed in
    let plan = c.in-Inner-planned in
    timed_is core (plain_forms c.args.forms.now) meets c.args.mems.now c.args.nodes.now c.args.number first st (plain_node c.args.node.now) (plain_node_plan c.args.planned.now)
    (map plain_counter c.in-Inner.counters.items) c.in-Inner.owned.items (map plain_op c.in-Inner.ops.items) c.in-Inner.comb plan.times.items plan.ii plan.latency plan.serial c.are_times_right.result
    (ap plain_node c.in-Inner.is) (ap plain_node_plan plan.is)
    (ap (λ k. c.args.number + k) (c.counters_size.ensures ∙ ap (λ xs. counters_size (map plain_counter xs)) c.deref.ensures.value))
    (c.are_times_right.ensures
    ∙ ap (λ xs. are_times_right core schemes meets first st (map plain_op xs) c.deref-in-Inner-planned-2.result.now plan.ii plan.latency plan.serial) c.deref-in-Inner-planned.ensures.value
    ∙ ap (λ xs. are_times_right core schemes meets first st (map plain_op c.in-Inner.ops.items) xs plan.ii plan.latency plan.serial) c.deref-in-Inner-planned-2.ensures.value)
