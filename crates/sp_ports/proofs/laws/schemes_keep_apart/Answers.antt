use Rattle.sp_ports.proofs.Linear.{schemes_keep_apart}
use Rattle.sp_ports.proofs.laws.schemes_keep_apart.Goals as goal

pub returns : goal.returns
returns c = schemes_keep_apart
