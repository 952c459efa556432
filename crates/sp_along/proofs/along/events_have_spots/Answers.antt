use Rattle.sp_along.proofs.AlongPlaced.{events_placed}
use Rattle.sp_along.proofs.along.events_have_spots.Goals as goal

pub returns : goal.returns
returns c = events_placed
