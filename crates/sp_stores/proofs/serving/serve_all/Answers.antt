use Rattle.std.proofs.Common.{◌+◌, ◌/◌, ◌%◌, length, take, flat_map, slice_index_or, sym, subst, ◌∙◌, arith}
use Rattle.std.proofs.Math.Nat.{mod-lt}
use Rattle.std.proofs.lemmas.List.{take_all, get_or_default}
use borrow.Author.Count.{below_more}
use Rattle.sp_gates.specs.Grows.{Fills}
use Rattle.sp_gates.proofs.Growing.{Fills-none, Fills-join, IsOne-stays}
use Rattle.sp_gates.proofs.Running.{runs_earlier}
use Rattle.sp_taps.specs.declared.store.Store.{Store}
use Rattle.sp_taps.specs.Stores.{IsStore}
use Rattle.sp_taps.specs.Wires.{wires_of}
use Rattle.sp_taps.proofs.Promised.{store_stays}
use Rattle.sp_bank_ports.specs.Ports.{WriteFits}
use Rattle.sp_stores.specs.Lines.{IsWriteLine, RunsLine, of_duplicate}
use Rattle.sp_stores.proofs.Kept.{at_item, all_fit, port_kept, line_kept}
use Rattle.sp_stores.proofs.Rows.{own_row, wires_left, wires_more}
use Rattle.sp_stores.proofs.serving.serve_all.Goals as goal

pub loop-j-init : goal.loop-j-init
loop-j-init c = record { fills = Fills-none _; runs = λ writes lines first len stores s run j other l. absurd (omega (arith, l)) }

pub serve_line-requires : goal.serve_line-requires
serve_line-requires c =
    let grows = c.loop-j.invariant.fills.grows in
    record {
      width = c.requires.width;
      wires = wires_left c.args.builder.now c.loop-j.builder c.requires.rows.0 c.args.width c.loop-j.j c.args.stores.now c.index-stores-j.result c.requires.rows.1 c.loop-j-test.true c.index-stores-j.is c.loop-j.invariant.fills c.requires.wires;
      row = own_row c.args.builder.now c.loop-j.builder c.requires.rows.0 c.args.width c.loop-j.j c.args.stores.now c.index-stores-j.result c.requires.rows.1 c.loop-j-test.true c.index-stores-j.is;
      port = port_kept c.args.builder.now c.loop-j.builder grows c.args.width c.index-ports-line.result
          (at_item (WriteFits c.args.builder.now c.args.width) c.args.ports.now (c.loop-j.j % length c.args.ports.now) c.index-ports-line.result c.requires.ports (mod-lt c.loop-j.j c.requires.some) c.index-ports-line.is);
      reads = all_fit c.args.builder.now c.loop-j.builder grows c.args.reads.now c.requires.reads;
      one = IsOne-stays c.args.builder.now c.loop-j.builder c.args.one grows c.requires.one;
    }

pub loop-j-preserved : goal.loop-j-preserved
loop-j-preserved c =
    let i = c.loop-j.invariant in
    let e = c.in_ok-serve_line.ensures in
    let j = c.loop-j.j in
    let store = c.index-stores-j.result in
    let port = c.index-ports-line.result in
    let lines = length c.args.ports.now in
    record {
      fills = subst (Fills c.args.builder.now c.serve_line.new.builder)
          (wires_more c.args.builder.now c.loop-j.builder c.requires.rows.0 c.args.width c.loop-j.j c.args.stores.now c.index-stores-j.result c.requires.rows.1 c.loop-j-test.true c.index-stores-j.is)
          (Fills-join _ _ _ (flat_map wires_of (take c.loop-j.j c.args.stores.now)) (wires_of c.index-stores-j.result) i.fills e.fills);
      runs = λ writes is_line first len stores s run k other l.
          let before = runs_earlier _ _ s e.fills.grows run in
          let line : IsWriteLine c.loop-j.builder (j % lines / c.args.banks) (j % lines % c.args.banks) writes port =
          line_kept c.args.builder.now c.loop-j.builder i.fills.grows (j % lines / c.args.banks) (j % lines % c.args.banks) writes port
          (subst (IsWriteLine c.args.builder.now (j % lines / c.args.banks) (j % lines % c.args.banks) writes) (sym c.index-ports-line.is) (is_line (j % lines) port (mod-lt j c.requires.some))) in
          let is : IsStore c.loop-j.builder (first + j) c.args.width len store =
          store_stays c.args.builder.now c.loop-j.builder (first + j) c.args.width len store i.fills.grows (subst (IsStore c.args.builder.now (first + j) c.args.width len) (sym c.index-stores-j.is) (stores j store c.loop-j-test.true)) in
          below_more
          (λ k. (other : Store) → RunsLine s (first + k) len (slice_index_or c.args.stores.now k other) (k % lines / c.args.banks) (k % lines % c.args.banks) writes (of_duplicate (k / lines) c.args.reads.now))
          c.loop-j.j
          (λ k l other. i.runs writes is_line first len stores s before k other l)
          (λ other.
          subst (λ st. RunsLine s (first + j) len st (j % lines / c.args.banks) (j % lines % c.args.banks) writes (of_duplicate (j / lines) c.args.reads.now)) (c.index-stores-j.is ∙ get_or_default c.args.stores.now j store other c.loop-j-test.true)
          (e.runs writes line (first + j) len is s run))
          k l other;
    }

pub returns-clause-fills : goal.returns-clause-fills
returns-clause-fills c =
    subst (λ xs. Fills c.args.builder.now c.loop-j.builder (flat_map wires_of xs)) (take_all c.loop-j.j c.args.stores.now (let past = c.loop-j-test.false in omega (arith, past))) c.loop-j.invariant.fills

pub returns-clause-runs : goal.returns-clause-runs
returns-clause-runs c = λ writes lines first len stores s run j other l.
    let past = c.loop-j-test.false in
    c.loop-j.invariant.runs writes lines first len stores s run j other (omega (arith, past, l))
