use Rattle.sp_lower.proofs.StoresLater.{drives_join}
use Rattle.sp_lower.proofs.stores_laws.drive_in_turn.Goals as goal

pub returns : goal.returns
returns c = drives_join
