use Rattle.sp_loop_circuits.proofs.Parts.{parts_of_loops_fit}
use Rattle.sp_loop_circuits.proofs.laws.parts_of_loops_fit.Goals as goal

pub returns : goal.returns
returns c = parts_of_loops_fit c.stages_have_lanes.ensures
