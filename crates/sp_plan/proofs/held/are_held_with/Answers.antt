use Rattle.std.proofs.Common.{◌≡◌, ◌<◌, [], length, ap, sym, ◌∙◌, arith}
use Rattle.sp_core.specs.CoreParts.{plain_core}
use Rattle.sp_core.specs.Plain.{plain_stage_list}
use Rattle.sp_plan.specs.Slots.{StageRun, runs_of, is_held}
use Rattle.sp_plan.proofs.RunLists.{run_count, run_here, runs_next, fits_next, all_next, all_fails, all_done}
use Rattle.sp_plan.proofs.held.are_held_with.Goals as goal

pub returns-then-not-is_held : goal.returns-then-not-is_held
returns-then-not-is_held c =
    let runs = runs_of c.args.number (plain_stage_list c.args.stages.now) in
    let count = run_count c.args.number c.args.stages.now in
    let here = run_here c.args.number c.args.stages.now c.loop-q.from c.loop-q.q c.index-stages-q.result c.index-stages-q.result c.loop-q-test.true c.index-stages-q.is c.loop-q.invariant.1 in
    let right = c.is_held.ensures runs c.requires.run (here ∙ sym c.run_from-b.ensures) c.requires.lane in
    sym (all_fails (is_held runs c.args.slots.now [] (plain_core c.args.core.now) c.args.owned.now c.args.meets.now c.args.p) (length runs) c.loop-q.q (let lt : c.loop-q.q < length c.args.stages.now = c.loop-q-test.true in omega arith) (sym right ∙ c.if-not-is_held.true))

pub loop-q-preserved : goal.loop-q-preserved
loop-q-preserved c =
    let runs = runs_of c.args.number (plain_stage_list c.args.stages.now) in
    let here = run_here c.args.number c.args.stages.now c.loop-q.from c.loop-q.q c.index-stages-q.result c.index-stages-q.result c.loop-q-test.true c.index-stages-q.is c.loop-q.invariant.1 in
    let right = c.is_held.ensures runs c.requires.run (here ∙ sym c.run_from-b.ensures) c.requires.lane in
    let until = ap (λ (r : StageRun). r.until) c.run_from-b.ensures in (
      all_next (is_held runs c.args.slots.now [] (plain_core c.args.core.now) c.args.owned.now c.args.meets.now c.args.p) c.loop-q.q c.loop-q.invariant.0 (sym right ∙ c.if-not-is_held.false),
      runs_next c.args.number c.args.stages.now c.loop-q.from c.loop-q.q c.index-stages-q.result c.index-stages-q.result c.loop-q-test.true c.index-stages-q.is c.loop-q.invariant.1 c.run_from-b.result.until until,
      fits_next c.args.number c.args.stages.now c.loop-q.from c.loop-q.q c.index-stages-q.result c.index-stages-q.result c.loop-q-test.true c.index-stages-q.is c.run_from-b.result.until until c.loop-q.invariant.2,
    )

pub returns : goal.returns
returns c =
    let runs = runs_of c.args.number (plain_stage_list c.args.stages.now) in
    let count = run_count c.args.number c.args.stages.now in
    let end : length runs ≡ c.loop-q.q = omega (arith, c.loop-q-test.false) in
    all_done (is_held runs c.args.slots.now [] (plain_core c.args.core.now) c.args.owned.now c.args.meets.now c.args.p) (length runs) c.loop-q.q end c.loop-q.invariant.0
