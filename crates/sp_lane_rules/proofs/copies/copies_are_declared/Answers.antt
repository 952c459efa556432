use Rattle.sp_lane_rules.proofs.CopiesFound.{are_declared}
use Rattle.sp_lane_rules.proofs.copies.copies_are_declared.Goals as goal

pub returns : goal.returns
returns c core = are_declared core
