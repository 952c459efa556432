use Rattle.std.proofs.Common.{[], ◌∷◌}
use Rattle.sp_gates.proofs.Growing.{Fills-join, HasNet-stays, IsOne-stays}
use Rattle.sp_gates.proofs.Running.{runs_earlier}
use Rattle.sp_xfer.proofs.Keeping.{wire_other}
use Rattle.sp_xfer.proofs.moving.steer.Goals as goal

pub connect_bit-requires-clause-net : goal.connect_bit-requires-clause-net
connect_bit-requires-clause-net c = wire_other _ _ _ _ 1 c.in_ok-connect.ensures.fills c.requires.wires.request_last c.requires.wires.last

pub connect_bit-requires-clause-from : goal.connect_bit-requires-clause-from
connect_bit-requires-clause-from c = HasNet-stays _ _ _ _ c.in_ok-connect.ensures.fills.grows c.requires.last

pub connect_bit-requires-clause-one : goal.connect_bit-requires-clause-one
connect_bit-requires-clause-one c = IsOne-stays _ _ _ c.in_ok-connect.ensures.fills.grows c.requires.one

pub connect-requires-2-clause-net : goal.connect-requires-2-clause-net
connect-requires-2-clause-net c = wire_other _ _ _ _ 32 c.in_ok-connect_bit.ensures.fills c.requires.wires.last_address (wire_other _ _ _ _ 32 c.in_ok-connect.ensures.fills c.requires.wires.request_address c.requires.wires.address)

pub connect-requires-2-clause-from : goal.connect-requires-2-clause-from
connect-requires-2-clause-from c = HasNet-stays _ _ _ _ c.in_ok-connect_bit.ensures.fills.grows (HasNet-stays _ _ _ _ c.in_ok-connect.ensures.fills.grows c.requires.number)

pub connect-requires-2-clause-one : goal.connect-requires-2-clause-one
connect-requires-2-clause-one c = IsOne-stays _ _ _ c.in_ok-connect_bit.ensures.fills.grows (IsOne-stays _ _ _ c.in_ok-connect.ensures.fills.grows c.requires.one)

pub returns-clause-fills : goal.returns-clause-fills
returns-clause-fills c = Fills-join _ _ _ (c.args.wires.now.request ∷ []) _ c.in_ok-connect.ensures.fills (Fills-join _ _ _ (c.args.wires.now.last ∷ []) _ c.in_ok-connect_bit.ensures.fills c.in_ok-connect-2.ensures.fills)

pub returns-clause-request : goal.returns-clause-request
returns-clause-request c = λ s r. c.in_ok-connect.ensures.word s (runs_earlier _ _ s c.in_ok-connect_bit.ensures.fills.grows (runs_earlier _ _ s c.in_ok-connect-2.ensures.fills.grows r))

pub returns-clause-bit : goal.returns-clause-bit
returns-clause-bit c = λ s r. c.in_ok-connect_bit.ensures.bit s (runs_earlier _ _ s c.in_ok-connect-2.ensures.fills.grows r)

pub returns-clause-last : goal.returns-clause-last
returns-clause-last c = λ s r. c.in_ok-connect_bit.ensures.on s (runs_earlier _ _ s c.in_ok-connect-2.ensures.fills.grows r)
