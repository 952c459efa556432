use Rattle.sp_node_runs.proofs.BodiesInners.{given_nets_stand}
use Rattle.sp_node_runs.proofs.bodies.given_nets_stand.Goals as goal

pub returns : goal.returns
returns c = given_nets_stand c.lanes_have_words.ensures
