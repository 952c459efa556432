use Rattle.sp_lower.proofs.StoresKnowing.{fills_drive}
use Rattle.sp_lower.proofs.stores_laws.fills_drive.Goals as goal

pub returns : goal.returns
returns c = fills_drive
