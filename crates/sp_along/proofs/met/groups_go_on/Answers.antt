use Rattle.sp_along.proofs.MetGroupOrder.{groups_go_on}
use Rattle.sp_along.proofs.met.groups_go_on.Goals as goal

pub returns : goal.returns
returns c = groups_go_on
