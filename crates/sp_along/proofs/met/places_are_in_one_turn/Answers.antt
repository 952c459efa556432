use Rattle.sp_along.proofs.MetTogether.{together_in_turn}
use Rattle.sp_along.proofs.met.places_are_in_one_turn.Goals as goal

pub returns : goal.returns
returns c = together_in_turn
