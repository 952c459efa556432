use Rattle.sp_lane_groups.proofs.ResetsWhole.{come_first}
use Rattle.sp_lane_groups.proofs.laws.resets_come_first.Goals as goal

pub returns : goal.returns
returns c core = come_first core
