use Rattle.std.proofs.Common.{◌≡◌, ◌<◌, ◌==◌, ◌&&◌, ◌||◌, not, [], length, map, slice_index, ap, sym, ◌∙◌, arith}
use Rattle.sp_core.specs.Plain.{plain_counter, plain_stage_list}
use Rattle.sp_plan.specs.Slots.{StageRun, runs_of, is_slot_right, is_slot_right_in}
use Rattle.sp_plan.proofs.RunLists.{run_count, run_here, runs_next, fits_next, all_next, all_fails, all_done}
use Rattle.sp_plan.proofs.slots.are_slots_right.Goals as goal

pub returns-then-not-is_right : goal.returns-then-not-is_right
returns-then-not-is_right c =
    let runs = runs_of c.args.number (plain_stage_list c.args.stages.now) in
    let count = run_count c.args.number c.args.stages.now in
    let here = run_here c.args.number c.args.stages.now c.loop-p.from c.loop-p.p c.index-stages-p.result c.index-stages-p.result c.loop-p-test.true c.index-stages-p.is c.loop-p.invariant.1 in
    let right = c.is_right.ensures runs (here ∙ sym c.run_from-run.ensures) (sym (c.lane_size-lane.ensures c.args.number)) ∙ ap (λ b. is_slot_right runs c.args.slots.now [] c.loop-p.p && (not b || (slice_index c.args.slots.now c.loop-p.p == 0))) c.has_one_slot-one.ensures in
    sym (all_fails (is_slot_right_in runs c.args.slots.now [] (map plain_counter c.args.counters.now) c.args.style) (length runs) c.loop-p.p (let lt : c.loop-p.p < length c.args.stages.now = c.loop-p-test.true in omega arith) (sym right ∙ c.if-not-is_right.true))

pub loop-p-preserved : goal.loop-p-preserved
loop-p-preserved c =
    let runs = runs_of c.args.number (plain_stage_list c.args.stages.now) in
    let here = run_here c.args.number c.args.stages.now c.loop-p.from c.loop-p.p c.index-stages-p.result c.index-stages-p.result c.loop-p-test.true c.index-stages-p.is c.loop-p.invariant.1 in
    let right = c.is_right.ensures runs (here ∙ sym c.run_from-run.ensures) (sym (c.lane_size-lane.ensures c.args.number)) ∙ ap (λ b. is_slot_right runs c.args.slots.now [] c.loop-p.p && (not b || (slice_index c.args.slots.now c.loop-p.p == 0))) c.has_one_slot-one.ensures in
    let until = ap (λ (r : StageRun). r.until) c.run_from-run.ensures in (
      all_next (is_slot_right_in runs c.args.slots.now [] (map plain_counter c.args.counters.now) c.args.style) c.loop-p.p c.loop-p.invariant.0 (sym right ∙ c.if-not-is_right.false),
      runs_next c.args.number c.args.stages.now c.loop-p.from c.loop-p.p c.index-stages-p.result c.index-stages-p.result c.loop-p-test.true c.index-stages-p.is c.loop-p.invariant.1 c.run_from-run.result.until until,
      fits_next c.args.number c.args.stages.now c.loop-p.from c.loop-p.p c.index-stages-p.result c.index-stages-p.result c.loop-p-test.true c.index-stages-p.is c.run_from-run.result.until until c.loop-p.invariant.2,
    )

pub returns : goal.returns
returns c =
    let runs = runs_of c.args.number (plain_stage_list c.args.stages.now) in
    let count = run_count c.args.number c.args.stages.now in
    let end : length runs ≡ c.loop-p.p = omega (arith, c.loop-p-test.false) in
    all_done (is_slot_right_in runs c.args.slots.now [] (map plain_counter c.args.counters.now) c.args.style) (length runs) c.loop-p.p end c.loop-p.invariant.0
