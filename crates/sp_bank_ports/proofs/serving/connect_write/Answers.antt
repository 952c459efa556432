use Rattle.std.proofs.Common.{[], ◌∷◌, arith}
use Rattle.sp_gates.proofs.Growing.{Fills-join, IsOne-stays}
use Rattle.sp_gates.proofs.Running.{runs_earlier}
use Rattle.sp_bank_ports.proofs.Wires.{wire_beside, not_below, not_below_two, not_below_three}
use Rattle.sp_bank_ports.proofs.serving.connect_write.Goals as goal

pub connect-requires-2-clause-net : goal.connect-requires-2-clause-net
connect-requires-2-clause-net c =
    let b = c.requires.row.write_at in
    wire_beside _ _ _ _ (c.args.store.now.write ∷ []) c.in_ok-connect.ensures.fills (not_below c.args.store.now.write c.args.store.now.write_at (omega (arith, b))) c.requires.wires.write_at

pub connect-requires-2-clause-one : goal.connect-requires-2-clause-one
connect-requires-2-clause-one c = IsOne-stays _ _ _ c.in_ok-connect.ensures.fills.grows c.requires.one

pub connect-requires-3-clause-net : goal.connect-requires-3-clause-net
connect-requires-3-clause-net c =
    let b = c.requires.row.write_at in
    let d = c.requires.row.word in
    wire_beside _ _ _ _ (c.args.store.now.write ∷ c.args.store.now.write_at ∷ [])
    (Fills-join _ _ _ (c.args.store.now.write ∷ []) (c.args.store.now.write_at ∷ []) c.in_ok-connect.ensures.fills c.in_ok-connect-2.ensures.fills)
    (not_below_two c.args.store.now.write c.args.store.now.write_at c.args.store.now.word (omega (arith, d)) (omega (arith, b, d))) c.requires.wires.word

pub connect-requires-3-clause-one : goal.connect-requires-3-clause-one
connect-requires-3-clause-one c = IsOne-stays _ _ _ c.in_ok-connect-2.ensures.fills.grows (IsOne-stays _ _ _ c.in_ok-connect.ensures.fills.grows c.requires.one)

pub returns-clause-fills : goal.returns-clause-fills
returns-clause-fills c =
    Fills-join _ _ _ (c.args.store.now.write ∷ []) (c.args.store.now.write_at ∷ c.args.store.now.word ∷ []) c.in_ok-connect.ensures.fills
    (Fills-join _ _ _ (c.args.store.now.write_at ∷ []) (c.args.store.now.word ∷ []) c.in_ok-connect-2.ensures.fills c.in_ok-connect-3.ensures.fills)

pub returns-clause-rest : goal.returns-clause-rest
returns-clause-rest c =
    let fills = returns-clause-fills c in
    let row = c.requires.row in
    let a = row.write_at in
    let b = row.word in
    let d = row.read in
    let e = row.read_at in
    record {
      read = wire_beside _ _ _ _ (c.args.store.now.write ∷ c.args.store.now.write_at ∷ c.args.store.now.word ∷ []) fills (not_below_three _ _ _ _ (omega (arith, d)) (omega (arith, a, d)) (omega (arith, b, d))) c.requires.wires.read;
      read_at = wire_beside _ _ _ _ (c.args.store.now.write ∷ c.args.store.now.write_at ∷ c.args.store.now.word ∷ []) fills (not_below_three _ _ _ _ (omega (arith, e)) (omega (arith, a, e)) (omega (arith, b, e))) c.requires.wires.read_at;
    }

pub returns-clause-runs : goal.returns-clause-runs
returns-clause-runs c = λ s run t.
    let second = runs_earlier _ _ s c.in_ok-connect-3.ensures.fills.grows run in
    let first = runs_earlier _ _ s c.in_ok-connect-2.ensures.fills.grows second in
    record { write = c.in_ok-connect.ensures.word s first t; write_at = c.in_ok-connect-2.ensures.word s second t; word = c.in_ok-connect-3.ensures.word s run t }
