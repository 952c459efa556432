use Rattle.sp_along.proofs.MetTogether.{together_at_loop}
use Rattle.sp_along.proofs.met.places_are_at_one_loop.Goals as goal

pub returns : goal.returns
returns c = together_at_loop
