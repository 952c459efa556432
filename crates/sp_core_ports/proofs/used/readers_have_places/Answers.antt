use Rattle.sp_core_ports.proofs.UsedCounted.{readers_have_places}
use Rattle.sp_core_ports.proofs.used.readers_have_places.Goals as goal

pub returns : goal.returns
returns c = readers_have_places
