use Rattle.sp_along.proofs.MetGroupOrder.{have_steps}
use Rattle.sp_along.proofs.met.counters_have_steps.Goals as goal

pub returns : goal.returns
returns c = have_steps
