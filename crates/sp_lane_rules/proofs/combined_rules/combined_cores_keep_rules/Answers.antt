use Rattle.sp_lane_rules.proofs.CombinedWhole.{keep_rules}
use Rattle.sp_lane_rules.proofs.combined_rules.combined_cores_keep_rules.Goals as goal

pub returns : goal.returns
returns c core = keep_rules core
