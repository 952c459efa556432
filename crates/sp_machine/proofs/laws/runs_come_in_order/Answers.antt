use Rattle.sp_machine.proofs.TreeOrder.{node_in_order}
use Rattle.sp_machine.proofs.laws.runs_come_in_order.Goals as goal

pub returns : goal.returns
returns c core plan delays node schemes meets k n st copies h planned kept sound = node_in_order core plan delays schemes meets node k n st copies h planned kept sound
