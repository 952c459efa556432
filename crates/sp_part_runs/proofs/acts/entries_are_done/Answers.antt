use Rattle.sp_part_runs.proofs.ActsListed.{entries_done}
use Rattle.sp_part_runs.proofs.acts.entries_are_done.Goals as goal

pub returns : goal.returns
returns c = entries_done
