use Rattle.sp_lower.proofs.StoresWires.{wires_apart}
use Rattle.sp_lower.proofs.stores_laws.wires_are_apart.Goals as goal

pub returns : goal.returns
returns c = wires_apart
