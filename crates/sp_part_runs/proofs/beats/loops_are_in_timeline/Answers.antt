use Rattle.sp_part_runs.proofs.BeatsTimed.{in_timeline}
use Rattle.sp_part_runs.proofs.beats.loops_are_in_timeline.Goals as goal

pub returns : goal.returns
returns c = in_timeline
