use Rattle.sp_sim.proofs.Placed.{run_stands}
use Rattle.sp_sim.proofs.settle.settle_runs.Goals as goal

pub settle_run-requires-clause-stand : goal.settle_run-requires-clause-stand
settle_run-requires-clause-stand c =
    run_stands c.args.netlist.now c.args.nets.now c.args.runs.now c.loop-run.run-index c.run-item.result c.deref.result.now c.loop-run-test.true c.run-item.is c.deref.ensures.value c.requires.stand
