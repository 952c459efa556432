use Rattle.sp_part_runs.proofs.BodiesIssuing.{all_right}
use Rattle.sp_part_runs.proofs.bodies.bodies_issue.Goals as goal

pub returns : goal.returns
returns c start more step issue done interval latency last runs = all_right start more step issue done interval latency last runs
