use Rattle.sp_lane_groups.proofs.FirstWhole.{reset_first}
use Rattle.sp_lane_groups.proofs.resets.programs_reset_first.Goals as goal

pub returns : goal.returns
returns c p h = reset_first p h
