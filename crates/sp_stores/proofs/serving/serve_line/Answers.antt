use Rattle.std.proofs.Common.{[]}
use Rattle.sp_gates.proofs.Growing.{Fills-join, IsOne-stays}
use Rattle.sp_gates.proofs.Running.{runs_earlier}
use Rattle.sp_taps.specs.Wires.{wires_of}
use Rattle.sp_taps.proofs.Promised.{store_stays}
use Rattle.sp_stores.proofs.Kept.{port_kept}
use Rattle.sp_stores.proofs.Rows.{wires_beside}
use Rattle.sp_stores.proofs.serving.serve_line.Goals as goal

pub serve-requires-clause-wires : goal.serve-requires-clause-wires
serve-requires-clause-wires c = wires_beside _ _ c.args.width c.args.store.now c.in_ok-read.ensures.fills c.requires.wires

pub serve-requires-clause-write : goal.serve-requires-clause-write
serve-requires-clause-write c = port_kept _ _ c.in_ok-read.ensures.fills.grows c.args.width c.args.port.now c.requires.port

pub serve-requires-clause-one : goal.serve-requires-clause-one
serve-requires-clause-one c = IsOne-stays _ _ _ c.in_ok-read.ensures.fills.grows c.requires.one

pub returns-clause-fills : goal.returns-clause-fills
returns-clause-fills c = Fills-join _ _ _ [] (wires_of c.args.store.now) c.in_ok-read.ensures.fills c.in_ok-serve.ensures.fills

pub returns-clause-runs : goal.returns-clause-runs
returns-clause-runs c = λ writes line number len is s run.
    let before = runs_earlier _ _ s c.in_ok-serve.ensures.fills.grows run in
    let first = runs_earlier _ _ s c.in_ok-read.ensures.fills.grows before in
    record {
      write = c.args.port.now;
      read = c.in_ok-read.read;
      served = c.in_ok-serve.ensures.runs number len (store_stays _ _ number c.args.width len c.args.store.now c.in_ok-read.ensures.fills.grows is) s run;
      writes_served = line s first;
      reads_served = c.in_ok-read.ensures.line s before;
    }
