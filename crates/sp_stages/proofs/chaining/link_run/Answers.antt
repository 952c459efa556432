use Rattle.std.proofs.Common.{◌≡◌, map, length, subst, ◌∙◌, arith}
use Rattle.sp_core.specs.CoreParts.{plain_core}
use Rattle.sp_stages.specs.Chains.{AreListed, after_links, is_link}
use Rattle.sp_plan.specs.Runs.{plain_run}
use Rattle.sp_stages.proofs.Listed.{link_listed}
use Rattle.sp_stages.proofs.chaining.link_run.Goals as goal

pub link-requires-clause-each : goal.link-requires-clause-each
link-requires-clause-each c = c.loop-q.invariant.0 ∙ c.requires.each

pub loop-q-preserved : goal.loop-q-preserved
loop-q-preserved c =
    let linked = is_link (plain_core c.args.core.now) c.args.meets.now c.args.parallel (map plain_run c.args.runs.now) c.args.slots.now in (
      c.link.ensures.each ∙ c.loop-q.invariant.0,
      λ leader h. link_listed linked leader c.args.p c.loop-q.q _ (c.link.ensures.linked (after_links linked leader c.args.p c.loop-q.q) (c.loop-q.invariant.1 leader h)),
    )

pub returns-clause-linked : goal.returns-clause-linked
returns-clause-linked c = λ leader h.
    let end : c.loop-q.q ≡ length c.args.runs.now = omega arith in
    subst (λ k. AreListed (after_links (is_link (plain_core c.args.core.now) c.args.meets.now c.args.parallel (map plain_run c.args.runs.now) c.args.slots.now) leader c.args.p k) c.loop-q.leaders.items) end (c.loop-q.invariant.1 leader h)
