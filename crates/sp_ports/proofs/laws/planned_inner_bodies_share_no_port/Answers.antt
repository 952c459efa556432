use Rattle.sp_ports.proofs.Whole.{planned_inners_share_no_port}
use Rattle.sp_ports.proofs.laws.planned_inner_bodies_share_no_port.Goals as goal

pub returns : goal.returns
returns c = planned_inners_share_no_port
