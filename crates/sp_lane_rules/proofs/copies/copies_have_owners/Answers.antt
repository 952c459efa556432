use Rattle.sp_lane_rules.proofs.CopiesOwned.{have_owners}
use Rattle.sp_lane_rules.proofs.copies.copies_have_owners.Goals as goal

pub returns : goal.returns
returns c core = have_owners core
