use Rattle.sp_lower.proofs.LoadsAdding.{slices_later}
use Rattle.sp_lower.proofs.stores_laws.slices_stay.Goals as goal

pub returns : goal.returns
returns c = slices_later
