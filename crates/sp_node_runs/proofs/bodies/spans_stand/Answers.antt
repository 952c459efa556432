use Rattle.sp_node_runs.proofs.BodiesSpans.{spans_stand}
use Rattle.sp_node_runs.proofs.bodies.spans_stand.Goals as goal

pub returns : goal.returns
returns c = spans_stand c.lanes_have_words.ensures c.words_agree.ensures
