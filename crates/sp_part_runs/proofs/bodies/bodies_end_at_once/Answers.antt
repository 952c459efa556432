use Rattle.sp_part_runs.proofs.BodiesIssuing.{ends_at_once}
use Rattle.sp_part_runs.proofs.bodies.bodies_end_at_once.Goals as goal

pub returns : goal.returns
returns c = ends_at_once
