use Rattle.sp_part_runs.proofs.BodiesActing.{body_works}
use Rattle.sp_part_runs.proofs.bodies.bodies_work.Goals as goal

pub returns : goal.returns
returns c = body_works
