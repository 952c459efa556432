use Rattle.sp_part_runs.proofs.CountedTelling.{all_tell}
use Rattle.sp_part_runs.proofs.counted.counters_tell.Goals as goal

pub returns : goal.returns
returns c = all_tell
