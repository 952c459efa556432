use Rattle.sp_part_runs.proofs.EntriesGroups.{groups_done}
use Rattle.sp_part_runs.proofs.entries.inner_runs_are_done.Goals as goal

pub returns : goal.returns
returns c core = groups_done core (c.nodes_fit.ensures core)
