use Rattle.sp_gates.proofs.Growing.{Keeps-join}
use Rattle.sp_channels.proofs.loads.promise_load.Goals as goal

pub returns-clause-keeps : goal.returns-clause-keeps
returns-clause-keeps c = Keeps-join _ _ _ c.in_ok-request.ensures.keeps (Keeps-join _ _ _ c.in_ok-last.ensures.keeps (Keeps-join _ _ _ c.in_ok-address.ensures.keeps (Keeps-join _ _ _ c.in_ok-ready.ensures.keeps (c.in_ok-word.ensures.keeps))))
