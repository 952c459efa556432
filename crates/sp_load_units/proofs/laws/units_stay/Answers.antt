use Rattle.sp_tree_handed.specs.Transfers.{transfers_in}
use Rattle.sp_load_units.proofs.Standing.{all_stay}
use Rattle.sp_load_units.proofs.laws.units_stay.Goals as goal

pub returns : goal.returns
returns c = λ a b core units grows still. all_stay a b core grows (transfers_in core.root 0 0) units still
