use Rattle.sp_core.proofs.Footprints.{within}
use Rattle.sp_core.proofs.laws.runs_are_footprints.Goals as goal

pub returns : goal.returns
returns c = within
