use Rattle.sp_sugar.proofs.laws.programs_become_cores.Goals as goal
use Rattle.sp_sugar.proofs.Cores.{core_is_right}

pub returns : goal.returns
returns c p h = core_is_right p h
