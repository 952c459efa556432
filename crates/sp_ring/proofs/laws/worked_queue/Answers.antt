use Rattle.std.proofs.Common.{refl}
use Rattle.sp_ring.proofs.laws.worked_queue.Goals as goal

pub returns : goal.returns
returns c = record { two = refl; three = refl; round = refl }
