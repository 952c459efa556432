use Rattle.sp_netlist.specs.Signals.{Setting}
use Rattle.sp_sim.specs.Progress.{setting_of}
use Rattle.sp_sim.proofs.Loads.{first_sim}
use Rattle.sp_sim.proofs.sim.Sim.begin.Goals as goal

pub invariant_of-result : goal.invariant_of-result
invariant_of-result c =
    let g : Setting = setting_of c.args.netlist.now c.args.input.now c.args.delays.now in
    first_sim g c.cells-cells.ensures.netlist c.requires c.in_ok-state.state c.in_ok-state.ensures c.quiet_run.ensures c.in_ok-program.program c.in_ok-program.ensures
