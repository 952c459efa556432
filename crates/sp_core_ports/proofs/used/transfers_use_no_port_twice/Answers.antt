use Rattle.sp_core_ports.proofs.UsedMoving.{transfers_use_none}
use Rattle.sp_core_ports.proofs.used.transfers_use_no_port_twice.Goals as goal

pub returns : goal.returns
returns c = transfers_use_none
