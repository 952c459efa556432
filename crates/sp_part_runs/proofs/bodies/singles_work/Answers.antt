use Rattle.sp_part_runs.proofs.BodiesActing.{single_works}
use Rattle.sp_part_runs.proofs.bodies.singles_work.Goals as goal

pub returns : goal.returns
returns c = single_works
