use Rattle.sp_overlap.proofs.Precede.{overlaps_precede}
use Rattle.sp_overlap.proofs.laws.overlaps_come_in_turn.Goals as goal

pub returns : goal.returns
returns c = overlaps_precede
