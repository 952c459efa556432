use Rattle.sp_part_runs.proofs.BeatsWhole.{loops_work}
use Rattle.sp_part_runs.proofs.beats.loops_in_beats_work.Goals as goal

pub returns : goal.returns
returns c = loops_work
