use Rattle.sp_sugar.proofs.laws.declarations_are_right.Goals as goal
use Rattle.sp_sugar.proofs.Declared.{memories_right}
use Rattle.sp_sugar.proofs.PortNames.{ports_right}

pub returns : goal.returns
returns c p h = (memories_right p h, ports_right p h)
