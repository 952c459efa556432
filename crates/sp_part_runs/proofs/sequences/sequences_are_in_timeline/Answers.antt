use Rattle.sp_part_runs.proofs.SequencesTimed.{in_timeline}
use Rattle.sp_part_runs.proofs.sequences.sequences_are_in_timeline.Goals as goal

pub returns : goal.returns
returns c = in_timeline
