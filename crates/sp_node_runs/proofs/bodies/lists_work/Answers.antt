use Rattle.sp_node_runs.proofs.BodiesLists.{lists_work}
use Rattle.sp_node_runs.proofs.bodies.lists_work.Goals as goal

pub returns : goal.returns
returns c core = lists_work core c.lanes_have_words.ensures c.singles_work.ensures c.words_agree.ensures
