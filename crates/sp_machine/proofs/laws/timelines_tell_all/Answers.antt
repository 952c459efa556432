use Rattle.sp_machine.proofs.Told.{told_node}
use Rattle.sp_machine.proofs.laws.timelines_tell_all.Goals as goal

pub returns : goal.returns
returns c core plan delays node k n st copies h = told_node core plan delays node k n st copies h
