use Rattle.sp_gates.proofs.Growing.{Fills-none}
use Rattle.sp_counters.proofs.counting.lanes.Goals as goal

pub returns-else-is_empty-clause-fills : goal.returns-else-is_empty-clause-fills
returns-else-is_empty-clause-fills c = Fills-none _
