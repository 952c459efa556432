use Rattle.sp_stages.proofs.PlacedAt.{placed}
use Rattle.sp_stages.proofs.laws.stages_are_in_place.Goals as goal

pub returns : goal.returns
returns c = placed
