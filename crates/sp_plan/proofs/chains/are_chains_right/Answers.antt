use Rattle.std.proofs.Common.{◌≡◌, ◌<◌, length, map, ap, sym, ◌∙◌, arith}
use Rattle.sp_core.specs.CoreParts.{plain_core}
use Rattle.sp_core.specs.Plain.{plain_counter, plain_stage_list}
use Rattle.sp_plan.specs.Slots.{StageRun, runs_of, are_chains_right_of, is_parallel_block}
use Rattle.sp_plan.proofs.RunLists.{run_count, run_here, runs_next, fits_next, all_next, all_fails, all_done}
use Rattle.sp_plan.proofs.chains.are_chains_right.Goals as goal

pub returns-then-not-are_chains_right_of : goal.returns-then-not-are_chains_right_of
returns-then-not-are_chains_right_of c =
    let runs = runs_of c.args.number (plain_stage_list c.args.stages.now) in
    let count = run_count c.args.number c.args.stages.now in
    let right = c.are_chains_right_of.ensures ∙ ap (λ parallel. are_chains_right_of runs c.args.slots.now c.args.chains.now (plain_core c.args.core.now) parallel c.args.meets.now c.loop-p.p) c.is_parallel_block-parallel.ensures in
    sym (all_fails (are_chains_right_of runs c.args.slots.now c.args.chains.now (plain_core c.args.core.now) (is_parallel_block (map plain_counter c.args.counters.now) c.args.style) c.args.meets.now) (length runs) c.loop-p.p (let lt : c.loop-p.p < length c.args.stages.now = c.loop-p-test.true in omega arith) (sym right ∙ c.if-not-are_chains_right_of.true))

pub loop-p-preserved : goal.loop-p-preserved
loop-p-preserved c =
    let runs = runs_of c.args.number (plain_stage_list c.args.stages.now) in
    let right = c.are_chains_right_of.ensures ∙ ap (λ parallel. are_chains_right_of runs c.args.slots.now c.args.chains.now (plain_core c.args.core.now) parallel c.args.meets.now c.loop-p.p) c.is_parallel_block-parallel.ensures in
    let until = ap (λ (r : StageRun). r.until) c.run_from-a.ensures in (
      all_next (are_chains_right_of runs c.args.slots.now c.args.chains.now (plain_core c.args.core.now) (is_parallel_block (map plain_counter c.args.counters.now) c.args.style) c.args.meets.now) c.loop-p.p c.loop-p.invariant.0 (sym right ∙ c.if-not-are_chains_right_of.false),
      runs_next c.args.number c.args.stages.now c.loop-p.from c.loop-p.p c.index-stages-p.result c.index-stages-p.result c.loop-p-test.true c.index-stages-p.is c.loop-p.invariant.1 c.run_from-a.result.until until,
      fits_next c.args.number c.args.stages.now c.loop-p.from c.loop-p.p c.index-stages-p.result c.index-stages-p.result c.loop-p-test.true c.index-stages-p.is c.run_from-a.result.until until c.loop-p.invariant.2,
    )

pub returns : goal.returns
returns c =
    let runs = runs_of c.args.number (plain_stage_list c.args.stages.now) in
    let count = run_count c.args.number c.args.stages.now in
    let end : length runs ≡ c.loop-p.p = omega (arith, c.loop-p-test.false) in
    all_done (are_chains_right_of runs c.args.slots.now c.args.chains.now (plain_core c.args.core.now) (is_parallel_block (map plain_counter c.args.counters.now) c.args.style) c.args.meets.now) (length runs) c.loop-p.p end c.loop-p.invariant.0

pub are_chains_right_of-requires-clause-run : goal.are_chains_right_of-requires-clause-run
are_chains_right_of-requires-clause-run c =
    run_here c.args.number c.args.stages.now c.loop-p.from c.loop-p.p c.index-stages-p.result c.index-stages-p.result c.loop-p-test.true c.index-stages-p.is c.loop-p.invariant.1 ∙ sym c.run_from-a.ensures
