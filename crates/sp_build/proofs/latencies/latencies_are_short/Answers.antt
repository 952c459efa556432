use Rattle.std.proofs.Common.{ℕ, ◌<◌, ◌^◌, inl, inr, sym, subst, arith}
use Rattle.std.proofs.lemmas.Bool.{cases_lt}
use Rattle.sp_plan.specs.Plain.{plain_node_plan, plain_plan}
use Rattle.sp_plan.specs.PlainPlan.{PlainNodePlan, other_plan, node_plan}
use Rattle.sp_machine.specs.Timeline.{latency_of}
use Rattle.sp_build.proofs.Lists.{map_at}
use Rattle.sp_build.proofs.latencies.latencies_are_short.Goals as goal

pub loop-index-preserved : goal.loop-index-preserved
loop-index-preserved c = λ k less.
    elim (cases_lt k c.loop-index.index) [
      | inl before ↦ c.loop-index.invariant k before
      | inr past ↦ (
          let small = subst (λ n. n < 2 ^ 32) c.latency.ensures c.latency.type_inv in
          let there = c.loop-index-test.true in
          let long = c.len-index-end.ensures in
          let at = map_at plain_node_plan c.args.plan.now.nodes.items c.loop-index.index c.index.result.now other_plan (omega (arith, there, long)) c.index.ensures in
          let here = subst (λ (p : PlainNodePlan). latency_of p < 2 ^ 32) (sym at) small in
          subst (λ i. latency_of (node_plan (plain_plan c.args.plan.now) i) < 2 ^ 32) (omega (arith, less, past)) here)
    ]
