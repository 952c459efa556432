use Rattle.sp_core.proofs.ReplayRuns.{replayed}
use Rattle.sp_core.proofs.laws.runs_are_replayed.Goals as goal

pub returns : goal.returns
returns c = replayed
