use Rattle.sp_machine.proofs.CountedRuns.{node_counted}
use Rattle.sp_machine.proofs.laws.histories_are_counted.Goals as goal

pub returns : goal.returns
returns c core node turns scope s t h e = node_counted core turns node scope s t h e
