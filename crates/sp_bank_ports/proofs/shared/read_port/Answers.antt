use Rattle.std.proofs.Common.{[]}
use Rattle.sp_gates.proofs.Growing.{Fills-join}
use Rattle.sp_gates.proofs.Running.{runs_earlier}
use Rattle.sp_bank_ports.proofs.shared.read_port.Goals as goal

pub returns-clause-fills : goal.returns-clause-fills
returns-clause-fills c = Fills-join _ _ _ [] [] c.in_ok-on.ensures.fills c.in_ok-place.ensures.fills

pub returns-clause-last : goal.returns-clause-last
returns-clause-last c = λ s run t. record { on = c.in_ok-on.ensures.on s (runs_earlier _ _ s c.in_ok-place.ensures.fills.grows run) t; place = c.in_ok-place.ensures.word s run t }
