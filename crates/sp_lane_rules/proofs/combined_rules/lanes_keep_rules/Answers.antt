use Rattle.sp_lane_rules.proofs.CombinedCombinations.{lanes_right}
use Rattle.sp_lane_rules.proofs.combined_rules.lanes_keep_rules.Goals as goal

pub returns : goal.returns
returns c core lanes around inside counter p in_lane own ops comb one h there met right = lanes_right core lanes around inside counter in_lane p h there one own ops comb met right
