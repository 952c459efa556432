use Rattle.sp_core_ports.proofs.UsedRising.{lists_use_none}
use Rattle.sp_core_ports.proofs.used.lists_use_no_port_twice.Goals as goal

pub returns : goal.returns
returns c = lists_use_none
