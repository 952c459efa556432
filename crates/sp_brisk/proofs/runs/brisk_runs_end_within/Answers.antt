use Rattle.sp_brisk.proofs.RunsWhole.{runs_end_within}
use Rattle.sp_brisk.proofs.runs.brisk_runs_end_within.Goals as goal

pub returns : goal.returns
returns c = runs_end_within c.costs_are_within.ensures c.cores_end_in_their_cost.ensures
