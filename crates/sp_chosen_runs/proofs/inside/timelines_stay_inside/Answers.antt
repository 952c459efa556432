use Rattle.sp_chosen_runs.proofs.InsideWhole.{timelines_stay_inside}
use Rattle.sp_chosen_runs.proofs.inside.timelines_stay_inside.Goals as goal

pub returns : goal.returns
returns c core plan delays = timelines_stay_inside core plan delays (c.runs_stay_inside.ensures core)
