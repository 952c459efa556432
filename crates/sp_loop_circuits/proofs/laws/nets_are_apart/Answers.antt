use Rattle.sp_loop_circuits.proofs.Apart.{nets_are_apart}
use Rattle.sp_loop_circuits.proofs.laws.nets_are_apart.Goals as goal

pub returns : goal.returns
returns c = nets_are_apart
