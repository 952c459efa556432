use Rattle.sp_core_ports.proofs.UsedGroups.{outers_use_none}
use Rattle.sp_core_ports.proofs.used.outers_use_no_port_twice.Goals as goal

pub returns : goal.returns
returns c = outers_use_none
