use Rattle.sp_part_runs.proofs.CountedTelling.{loop_works}
use Rattle.sp_part_runs.proofs.counted.loops_work.Goals as goal

pub returns : goal.returns
returns c = loop_works
