use Rattle.sp_part_runs.proofs.BodiesActing.{access_right}
use Rattle.sp_part_runs.proofs.bodies.bodies_act.Goals as goal

pub returns : goal.returns
returns c = access_right
