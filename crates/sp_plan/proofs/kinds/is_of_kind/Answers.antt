use Rattle.std.proofs.Common.{◌≡◌, length, ap, sym, ◌∙◌, rules}
use Rattle.sp_core.specs.Declarations.{is_stream}
use Rattle.sp_core.specs.Plain.{plain_node}
use Rattle.sp_plan.specs.Plain.{plain_node_plan}
use Rattle.sp_plan.specs.Validity.{has_slots, is_kind_of}
use Rattle.sp_plan.proofs.OuterKind.{outer_of_kind}
use Rattle.sp_plan.proofs.kinds.is_of_kind.Goals as goal

pub returns-in-Outer-plan : goal.returns-in-Outer-plan
returns-in-Outer-plan c =
    let plan = ap plain_node_plan c.in-Outer-plan.is in
    let counted : c.has_slots.result ≡ has_slots (is_stream c.in-Outer.style) (length c.in-Outer.stages.items) (length c.in-Outer-plan.slots.items) (length c.in-Outer-plan.chains.items) = search rules in
    counted ∙ outer_of_kind c.in-Outer.counters c.in-Outer.style c.in-Outer.owned c.in-Outer.stages c.args.node.now _ _ c.in-Outer.is ∙ sym (ap (is_kind_of (plain_node c.args.node.now)) plan)
