use Rattle.sp_tree_handed.specs.Transfers.{transfers_in}
use Rattle.sp_load_units.proofs.Standing.{all_open}
use Rattle.sp_load_units.proofs.laws.units_are_open.Goals as goal

pub returns : goal.returns
returns c = λ d core units. all_open d core (transfers_in core.root 0 0) units
