use Rattle.sp_lane_rules.proofs.UnrolledWhole.{keep_rules}
use Rattle.sp_lane_rules.proofs.unrolled_rules.cores_keep_rules.Goals as goal

pub returns : goal.returns
returns c core = keep_rules core
