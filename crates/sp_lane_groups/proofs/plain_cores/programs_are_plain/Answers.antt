use Rattle.sp_lane_groups.proofs.PlainNodes.{core_plain}
use Rattle.sp_lane_groups.proofs.plain_cores.programs_are_plain.Goals as goal

pub returns : goal.returns
returns c p = core_plain p
