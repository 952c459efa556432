use Rattle.sp_lane_rules.proofs.CopiesCounts.{are_counted}
use Rattle.sp_lane_rules.proofs.copies.copies_are_counted.Goals as goal

pub returns : goal.returns
returns c core = are_counted core
