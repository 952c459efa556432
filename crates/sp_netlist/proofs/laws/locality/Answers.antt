use Rattle.sp_netlist.proofs.PartLaws.{locality}
use Rattle.sp_netlist.proofs.laws.locality.Goals as goal

pub returns : goal.returns
returns c = locality
