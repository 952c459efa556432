use Rattle.std.proofs.Common.{◌+◌, length, ap, ◌∙◌}
use Rattle.std.proofs.lemmas.List.{length_push}
use Rattle.sp_core.specs.CoreParts.{plain_core}
use Rattle.sp_plans.specs.Planned.{IsBestPlan}
use Rattle.sp_plans.proofs.NodeLists.{each_push}
use Rattle.sp_plans.proofs.nodes.node_plans.Goals as goal

pub loop-k-preserved : goal.loop-k-preserved
loop-k-preserved c =
    let items = c.in_ok-push.ensures.items in (
      ap length items ∙ length_push c.loop-k.nodes.items c.in_ok-node_plan.field-0 ∙ ap (λ n. n + 1) c.loop-k.invariant.0,
      each_push (IsBestPlan (plain_core c.args.core.now) c.args.meets.now.pairs.items c.args.schemes.now) c.loop-k.nodes.items c.in_ok-node_plan.field-0 c.loop-k.k c.loop-k.invariant.0 c.loop-k.invariant.1 c.in_ok-node_plan.ensures c.push.new.self.items items,
    )
