use Rattle.sp_ports.proofs.Bodies.{bodies_share_no_port}
use Rattle.sp_ports.proofs.laws.bodies_share_no_port.Goals as goal

pub returns : goal.returns
returns c = bodies_share_no_port
