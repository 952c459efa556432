use Rattle.sp_ports.proofs.Inners.{inners_share_no_port}
use Rattle.sp_ports.proofs.laws.inner_bodies_share_no_port.Goals as goal

pub returns : goal.returns
returns c = inners_share_no_port
