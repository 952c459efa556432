use Rattle.std.proofs.Common.{refl}
use Rattle.sp_part_runs.proofs.sequences.worked_sequence.Goals as goal

pub returns : goal.returns
returns c = record { first_slot = refl; second_slot = refl; long_member = refl; passed_over = refl; last_member = refl; over = refl; by_timeline = refl; last_stage = refl }
