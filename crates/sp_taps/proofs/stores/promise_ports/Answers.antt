use Rattle.sp_gates.proofs.Growing.{Keeps-join}
use Rattle.sp_taps.proofs.stores.promise_ports.Goals as goal

pub returns-clause-keeps : goal.returns-clause-keeps
returns-clause-keeps c =
    Keeps-join _ _ _ c.in_ok-write.ensures.keeps (Keeps-join _ _ _ c.in_ok-write_at.ensures.keeps (Keeps-join _ _ _ c.in_ok-word.ensures.keeps
    (Keeps-join _ _ _ c.in_ok-read.ensures.keeps (Keeps-join _ _ _ c.in_ok-read_at.ensures.keeps c.in_ok-found.ensures.keeps))))
