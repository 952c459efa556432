use Rattle.std.proofs.Common.{[], ◌∷◌, arith}
use Rattle.sp_gates.proofs.Growing.{Fills-join, IsOne-stays}
use Rattle.sp_gates.proofs.Running.{runs_earlier}
use Rattle.sp_bank_ports.proofs.Wires.{wire_beside, not_below}
use Rattle.sp_bank_ports.proofs.serving.connect_read.Goals as goal

pub connect-requires-2-clause-net : goal.connect-requires-2-clause-net
connect-requires-2-clause-net c =
    let row = c.requires.row in
    let a = row.read in
    let b = row.read_at in
    wire_beside _ _ _ _ (c.args.store.now.read ∷ []) c.in_ok-connect.ensures.fills (not_below c.args.store.now.read c.args.store.now.read_at (omega (arith, a, b))) c.requires.wires.read_at

pub connect-requires-2-clause-one : goal.connect-requires-2-clause-one
connect-requires-2-clause-one c = IsOne-stays _ _ _ c.in_ok-connect.ensures.fills.grows c.requires.one

pub returns-clause-fills : goal.returns-clause-fills
returns-clause-fills c = Fills-join _ _ _ (c.args.store.now.read ∷ []) (c.args.store.now.read_at ∷ []) c.in_ok-connect.ensures.fills c.in_ok-connect-2.ensures.fills

pub returns-clause-runs : goal.returns-clause-runs
returns-clause-runs c = λ s run t. record { read = c.in_ok-connect.ensures.word s (runs_earlier _ _ s c.in_ok-connect-2.ensures.fills.grows run) t; read_at = c.in_ok-connect-2.ensures.word s run t }
