use Rattle.sp_core_ports.proofs.UsedGroups.{parts_use_none}
use Rattle.sp_core_ports.proofs.used.parts_use_no_port_twice.Goals as goal

pub returns : goal.returns
returns c = parts_use_none
