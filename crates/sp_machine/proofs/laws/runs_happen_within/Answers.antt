use Rattle.sp_machine.proofs.Within.{node_within}
use Rattle.sp_machine.proofs.laws.runs_happen_within.Goals as goal

pub returns : goal.returns
returns c core plan delays node k n st copies h planned kept = node_within core plan delays node k n st copies h planned kept
