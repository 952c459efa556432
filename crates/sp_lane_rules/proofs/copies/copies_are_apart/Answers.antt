use Rattle.sp_lane_rules.proofs.CopiesFound.{are_apart}
use Rattle.sp_lane_rules.proofs.copies.copies_are_apart.Goals as goal

pub returns : goal.returns
returns c order = are_apart order
