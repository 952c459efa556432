use Rattle.sp_lane_groups.proofs.Scopes.{have_scopes}
use Rattle.sp_lane_groups.proofs.laws.groups_have_scopes.Goals as goal

pub returns : goal.returns
returns c = have_scopes
