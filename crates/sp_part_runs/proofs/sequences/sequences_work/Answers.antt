use Rattle.sp_part_runs.proofs.SequencesSlots.{sequences_work}
use Rattle.sp_part_runs.proofs.sequences.sequences_work.Goals as goal

pub returns : goal.returns
returns c = sequences_work
