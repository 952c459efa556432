use Rattle.std.proofs.Common.{refl}
use Rattle.sp_part_runs.proofs.beats.worked_run.Goals as goal

pub returns : goal.returns
returns c = record { count = refl; second_beat = refl; third_beat = refl; last_beat = refl; end = refl; first_slot = refl; second_slot = refl; over = refl; by_timeline = refl }
