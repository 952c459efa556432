use Rattle.sp_plans.proofs.Valid.{valid}
use Rattle.sp_plans.proofs.laws.chosen_plans_are_valid.Goals as goal

pub returns : goal.returns
returns c = valid c.chosen_schemes_are_right.ensures c.least_plans_are_right.ensures c.finest_plans_are_right.ensures c.depths_are_right.ensures
