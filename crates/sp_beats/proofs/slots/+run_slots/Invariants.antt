use Rattle.std.proofs.Common.{length}
use Rattle.sp_beats.proofs.slots.+run_slots.Given as goal

abbrev pub decreases-run_slots : goal.decreases-run_slots
decreases-run_slots l = length l.slots.now
