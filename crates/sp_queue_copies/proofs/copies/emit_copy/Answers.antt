use Rattle.std.proofs.Common.{[]}
use Rattle.sp_gates.proofs.Growing.{Fills-join, IsOne-stays}
use Rattle.sp_gates.proofs.Running.{runs_earlier}
use Rattle.sp_taps.specs.Wires.{wires_of}
use Rattle.sp_taps.proofs.Promised.{store_stays}
use Rattle.sp_ring.proofs.Going.{wires_beside}
use Rattle.sp_queue_copies.proofs.copies.emit_copy.Goals as goal

pub emit_ring-requires-clause-wires : goal.emit_ring-requires-clause-wires
emit_ring-requires-clause-wires c = wires_beside _ _ c.args.width c.args.store.now c.in_ok-asked.ensures.fills c.requires.wires

pub emit_ring-requires-clause-one : goal.emit_ring-requires-clause-one
emit_ring-requires-clause-one c = IsOne-stays _ _ _ c.in_ok-asked.ensures.fills.grows c.requires.one

pub returns-clause-fills : goal.returns-clause-fills
returns-clause-fills c = Fills-join _ _ _ [] (wires_of c.args.store.now) c.in_ok-asked.ensures.fills c.in_ok-emit_ring.ensures.fills

pub returns-clause-runs : goal.returns-clause-runs
returns-clause-runs c = λ bank is s run.
    let before = runs_earlier _ _ s c.in_ok-emit_ring.ensures.fills.grows run in
    record {
      asked = c.in_ok-asked.asked;
      ring = c.in_ok-emit_ring.field-0;
      is_asked = λ t. c.in_ok-asked.ensures.asked s before t;
      runs = c.in_ok-emit_ring.ensures.runs bank (store_stays _ _ bank c.args.width c.args.depth c.args.store.now c.in_ok-asked.ensures.fills.grows is) s run;
    }
