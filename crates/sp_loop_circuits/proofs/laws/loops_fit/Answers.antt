use Rattle.sp_loop_circuits.proofs.Parts.{loops_fit}
use Rattle.sp_loop_circuits.proofs.laws.loops_fit.Goals as goal

pub returns : goal.returns
returns c = loops_fit c.stages_have_lanes.ensures
