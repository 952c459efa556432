use Rattle.sp_chosen_runs.proofs.InsideWhole.{runs_stay_inside}
use Rattle.sp_chosen_runs.proofs.inside.runs_stay_inside.Goals as goal

pub returns : goal.returns
returns c core is_core timed = runs_stay_inside core (c.runs_are_allowed.ensures core is_core timed).0 is_core timed
