use Rattle.sp_sim.proofs.Levelled.{Levelled}
use Rattle.sp_sim.proofs.levels.levels_of.Given as goal

abbrev pub invariant-loop-step : goal.invariant-loop-step
invariant-loop-step l = Levelled l.netlist l.steps l.step-index l.levels
