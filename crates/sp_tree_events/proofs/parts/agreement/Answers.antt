use Rattle.sp_tree_events.proofs.PartsFollowing.{agreement}
use Rattle.sp_tree_events.proofs.parts.agreement.Goals as goal

pub returns : goal.returns
returns c = agreement
