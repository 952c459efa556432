use Rattle.sp_machine.proofs.Costs.{node_under}
use Rattle.sp_machine.proofs.laws.runs_keep_to_their_cost.Goals as goal

pub returns : goal.returns
returns c core plan delays d node waited k n st copies h planned counted = node_under core plan delays d waited node k n st copies h planned counted
