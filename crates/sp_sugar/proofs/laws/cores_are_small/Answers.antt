use Rattle.sp_sugar.proofs.laws.cores_are_small.Goals as goal
use Rattle.sp_sugar.proofs.Small.{core_is_small}

pub returns : goal.returns
returns c p h = core_is_small p h
