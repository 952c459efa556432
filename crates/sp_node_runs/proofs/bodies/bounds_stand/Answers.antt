use Rattle.sp_node_runs.proofs.BodiesBounds.{bounds_stand}
use Rattle.sp_node_runs.proofs.bodies.bounds_stand.Goals as goal

pub returns : goal.returns
returns c = bounds_stand c.lanes_have_words.ensures c.words_agree.ensures
