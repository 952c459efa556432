use Rattle.sp_core_ports.proofs.CoreWhole.{cores_use_no_port_twice}
use Rattle.sp_core_ports.proofs.cores.cores_use_no_port_twice.Goals as goal

pub returns : goal.returns
returns c = cores_use_no_port_twice
