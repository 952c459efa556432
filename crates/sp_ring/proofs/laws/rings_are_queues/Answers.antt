use Rattle.sp_ring.proofs.Held.{holds, takes}
use Rattle.sp_ring.proofs.laws.rings_are_queues.Goals as goal

pub returns : goal.returns
returns c = record { holds = holds; takes = takes }
