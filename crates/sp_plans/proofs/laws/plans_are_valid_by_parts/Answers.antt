use Rattle.sp_plans.proofs.ByParts.{by_parts}
use Rattle.sp_plans.proofs.laws.plans_are_valid_by_parts.Goals as goal

pub returns : goal.returns
returns c core forms meets plan ok = by_parts core forms meets plan c.depths_are_right.ensures ok
