use Rattle.std.proofs.Common.{refl}
use Rattle.sp_sugar.proofs.Follows.{follows}
use Rattle.sp_sugar.proofs.laws.expressions_are_followed.Goals as goal
use Rattle.std.specs.Prelude.{length}

pub returns : goal.returns
returns c p core e view done s after t left rest w h typed a went = follows p core h view e (length done) done s after t left rest w refl typed a went
