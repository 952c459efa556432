use Rattle.std.proofs.Common.{◌≡◌, map, length, ◌∙◌, arith}
use Rattle.std.proofs.lemmas.List.{length-map}
use Rattle.sp_core.specs.CoreParts.{plain_core}
use Rattle.sp_stages.specs.Chains.{leaders_before, is_link}
use Rattle.sp_plan.specs.Runs.{plain_run}
use Rattle.sp_stages.proofs.Listed.{own_listed, run_listed, all_listed}
use Rattle.sp_stages.proofs.chaining.leaders.Goals as goal

pub loop-p-init : goal.loop-p-init
loop-p-init c = own_listed c.in_ok-leaders.leaders.items (length c.args.runs.now) c.in_ok-leaders.ensures

pub loop-p-preserved : goal.loop-p-preserved
loop-p-preserved c =
    let linked = is_link (plain_core c.args.core.now) c.args.meets.now c.args.parallel (map plain_run c.args.runs.now) c.args.slots.now in (
      c.link_run.ensures.each ∙ c.loop-p.invariant.0,
      run_listed linked (length c.args.runs.now) c.loop-p.p _ (c.link_run.ensures.linked (leaders_before linked (length c.args.runs.now) c.loop-p.p) c.loop-p.invariant.1),
    )

pub returns : goal.returns
returns c =
    let linked = is_link (plain_core c.args.core.now) c.args.meets.now c.args.parallel (map plain_run c.args.runs.now) c.args.slots.now in
    let end : c.loop-p.p ≡ length c.args.runs.now = omega arith in
    (c.loop-p.invariant.0, all_listed linked (length c.args.runs.now) c.loop-p.p (length (map plain_run c.args.runs.now)) _ end (length-map c.args.runs.now plain_run) c.loop-p.invariant.1)
