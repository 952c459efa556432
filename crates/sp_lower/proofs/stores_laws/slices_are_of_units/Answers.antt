use Rattle.sp_lower.proofs.StoresKnowing.{of_units}
use Rattle.sp_lower.proofs.stores_laws.slices_are_of_units.Goals as goal

pub returns : goal.returns
returns c = of_units
