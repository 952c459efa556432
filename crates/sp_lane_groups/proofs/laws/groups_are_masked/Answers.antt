use Rattle.sp_lane_groups.proofs.Masked.{groups_masked}
use Rattle.sp_lane_groups.proofs.laws.groups_are_masked.Goals as goal

pub returns : goal.returns
returns c core = groups_masked core (c.lists_fit.ensures core)
