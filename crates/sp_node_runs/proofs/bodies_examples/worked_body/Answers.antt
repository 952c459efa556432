use Rattle.sp_node_runs.proofs.BodiesWorking.{told, acts}
use Rattle.sp_node_runs.proofs.bodies_examples.worked_body.Goals as goal

pub returns-clause-told : goal.returns-clause-told
returns-clause-told c = told

pub returns-clause-acts : goal.returns-clause-acts
returns-clause-acts c = acts
