use Rattle.sp_core_ports.proofs.UsedEnds.{ordered_use_none}
use Rattle.sp_core_ports.proofs.used.ordered_use_no_end_twice.Goals as goal

pub returns : goal.returns
returns c = ordered_use_none
