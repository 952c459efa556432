use Rattle.sp_core_ports.proofs.UsedCounted.{readers_are_in_order}
use Rattle.sp_core_ports.proofs.used.readers_are_in_order.Goals as goal

pub returns : goal.returns
returns c = readers_are_in_order
