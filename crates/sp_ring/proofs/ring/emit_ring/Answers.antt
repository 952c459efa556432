use Rattle.std.proofs.Common.{[]}
use Rattle.sp_gates.proofs.Growing.{Fills-join, HasNet-stays, IsOne-stays}
use Rattle.sp_gates.proofs.Running.{runs_earlier}
use Rattle.sp_taps.specs.Wires.{wires_of}
use Rattle.sp_taps.proofs.Promised.{store_stays}
use Rattle.sp_ring.proofs.Going.{wires_beside}
use Rattle.sp_ring.proofs.ring.emit_ring.Goals as goal

pub counted-requires-2-clause-one : goal.counted-requires-2-clause-one
counted-requires-2-clause-one c = IsOne-stays _ _ _ c.in_ok-head.ensures.fills.grows c.requires.one

pub serve-requires-clause-wires : goal.serve-requires-clause-wires
serve-requires-clause-wires c = wires_beside _ _ c.args.width c.args.store.now c.in_ok-tail.ensures.fills (wires_beside _ _ c.args.width c.args.store.now c.in_ok-head.ensures.fills c.requires.wires)

pub serve-requires-clause-write : goal.serve-requires-clause-write
serve-requires-clause-write c =
    let first = c.in_ok-head.ensures.fills.grows in
    let second = c.in_ok-tail.ensures.fills.grows in
    record {
      access = record { on = HasNet-stays _ _ _ _ second (HasNet-stays _ _ _ _ first c.requires.asked.put); place = c.in_ok-tail.ensures.net };
      word = HasNet-stays _ _ _ _ second (HasNet-stays _ _ _ _ first c.requires.asked.word);
    }

pub serve-requires-clause-read : goal.serve-requires-clause-read
serve-requires-clause-read c =
    let first = c.in_ok-head.ensures.fills.grows in
    let second = c.in_ok-tail.ensures.fills.grows in
    record { on = HasNet-stays _ _ _ _ second (HasNet-stays _ _ _ _ first c.requires.asked.take); place = HasNet-stays _ _ _ _ second c.in_ok-head.ensures.net }

pub serve-requires-clause-one : goal.serve-requires-clause-one
serve-requires-clause-one c = IsOne-stays _ _ _ c.in_ok-tail.ensures.fills.grows (IsOne-stays _ _ _ c.in_ok-head.ensures.fills.grows c.requires.one)

pub returns-clause-fills : goal.returns-clause-fills
returns-clause-fills c = Fills-join _ _ _ [] (wires_of c.args.store.now) c.in_ok-head.ensures.fills (Fills-join _ _ _ [] (wires_of c.args.store.now) c.in_ok-tail.ensures.fills c.in_ok-serve.ensures.fills)

pub returns-clause-runs : goal.returns-clause-runs
returns-clause-runs c = λ bank is s run.
    let second = runs_earlier _ _ s c.in_ok-serve.ensures.fills.grows run in
    let first = runs_earlier _ _ s c.in_ok-tail.ensures.fills.grows second in
    let stands = store_stays _ _ bank c.args.width c.args.len c.args.store.now c.in_ok-tail.ensures.fills.grows (store_stays _ _ bank c.args.width c.args.len c.args.store.now c.in_ok-head.ensures.fills.grows is) in
    record {
      head = c.in_ok-head.ensures.counts s first;
      tail = c.in_ok-tail.ensures.counts s second;
      served = c.in_ok-serve.ensures.runs bank c.args.len stands s run;
    }
