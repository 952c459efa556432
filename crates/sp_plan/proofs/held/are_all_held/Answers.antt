use Rattle.std.proofs.Common.{◌≡◌, ◌<◌, [], length, ap, sym, ◌∙◌, arith}
use Rattle.sp_core.specs.CoreParts.{plain_core}
use Rattle.sp_core.specs.Plain.{plain_stage_list}
use Rattle.sp_plan.specs.Slots.{StageRun, runs_of, are_held_with}
use Rattle.sp_plan.proofs.RunLists.{run_count, run_here, runs_next, fits_next, all_next, all_fails, all_done}
use Rattle.sp_plan.proofs.held.are_all_held.Goals as goal

pub returns-then-not-are_held_with : goal.returns-then-not-are_held_with
returns-then-not-are_held_with c =
    let runs = runs_of c.args.number (plain_stage_list c.args.stages.now) in
    let count = run_count c.args.number c.args.stages.now in
    let right = c.are_held_with.ensures in
    sym (all_fails (are_held_with runs c.args.slots.now [] (plain_core c.args.core.now) c.args.owned.now c.args.meets.now) (length runs) c.loop-p.p (let lt : c.loop-p.p < length c.args.stages.now = c.loop-p-test.true in omega arith) (sym right ∙ c.if-not-are_held_with.true))

pub loop-p-preserved : goal.loop-p-preserved
loop-p-preserved c =
    let runs = runs_of c.args.number (plain_stage_list c.args.stages.now) in
    let right = c.are_held_with.ensures in
    let until = ap (λ (r : StageRun). r.until) c.run_from-a.ensures in (
      all_next (are_held_with runs c.args.slots.now [] (plain_core c.args.core.now) c.args.owned.now c.args.meets.now) c.loop-p.p c.loop-p.invariant.0 (sym right ∙ c.if-not-are_held_with.false),
      runs_next c.args.number c.args.stages.now c.loop-p.from c.loop-p.p c.index-stages-p.result c.index-stages-p.result c.loop-p-test.true c.index-stages-p.is c.loop-p.invariant.1 c.run_from-a.result.until until,
      fits_next c.args.number c.args.stages.now c.loop-p.from c.loop-p.p c.index-stages-p.result c.index-stages-p.result c.loop-p-test.true c.index-stages-p.is c.run_from-a.result.until until c.loop-p.invariant.2,
    )

pub returns : goal.returns
returns c =
    let runs = runs_of c.args.number (plain_stage_list c.args.stages.now) in
    let count = run_count c.args.number c.args.stages.now in
    let end : length runs ≡ c.loop-p.p = omega (arith, c.loop-p-test.false) in
    all_done (are_held_with runs c.args.slots.now [] (plain_core c.args.core.now) c.args.owned.now c.args.meets.now) (length runs) c.loop-p.p end c.loop-p.invariant.0

pub are_held_with-requires-clause-run : goal.are_held_with-requires-clause-run
are_held_with-requires-clause-run c =
    run_here c.args.number c.args.stages.now c.loop-p.from c.loop-p.p c.index-stages-p.result c.index-stages-p.result c.loop-p-test.true c.index-stages-p.is c.loop-p.invariant.1 ∙ sym c.run_from-a.ensures

pub are_held_with-requires-clause-lane : goal.are_held_with-requires-clause-lane
are_held_with-requires-clause-lane c = sym (c.lane_size-lane.ensures c.args.number)
