use Rattle.sp_brisk.proofs.RunsWhole.{plans_cost_within}
use Rattle.sp_brisk.proofs.runs.brisk_plans_cost_within.Goals as goal

pub returns : goal.returns
returns c = plans_cost_within c.costs_are_within.ensures
