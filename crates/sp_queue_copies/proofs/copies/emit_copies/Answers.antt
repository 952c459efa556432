use Rattle.std.proofs.Common.{◌+◌, take, flat_map, slice_index_or, sym, subst, ◌∙◌, arith}
use Rattle.std.proofs.lemmas.List.{take_all, get_or_default}
use borrow.Author.Count.{below_more}
use Rattle.sp_gates.specs.Grows.{Fills}
use Rattle.sp_gates.proofs.Growing.{Fills-none, Fills-join, IsOne-stays}
use Rattle.sp_gates.proofs.Running.{runs_earlier}
use Rattle.sp_mem.proofs.Kept.{fresh_kept, writes_kept}
use Rattle.sp_taps.specs.declared.store.Store.{Store}
use Rattle.sp_taps.specs.Stores.{IsStore}
use Rattle.sp_taps.specs.Wires.{wires_of}
use Rattle.sp_taps.proofs.Promised.{store_stays}
use Rattle.sp_stores.proofs.Rows.{own_row, wires_left, wires_more}
use Rattle.sp_queue_copies.specs.Events.{RunsQueue}
use Rattle.sp_queue_copies.proofs.Lists.{touches_kept}
use Rattle.sp_queue_copies.proofs.copies.emit_copies.Goals as goal

pub loop-i-init : goal.loop-i-init
loop-i-init c = record { fills = Fills-none _; runs = λ first stores s run k other l. absurd (omega (arith, l)) }

pub emit_copy-requires : goal.emit_copy-requires
emit_copy-requires c =
    let grows = c.loop-i.invariant.fills.grows in
    record {
      width = c.requires.width;
      depth = c.requires.depth;
      wires = wires_left c.args.builder.now c.loop-i.builder c.requires.rows.0 c.args.width c.loop-i.i c.args.stores.now c.index-stores-i.result c.requires.rows.1 c.loop-i-test.true c.index-stores-i.is c.loop-i.invariant.fills c.requires.wires;
      row = own_row c.args.builder.now c.loop-i.builder c.requires.rows.0 c.args.width c.loop-i.i c.args.stores.now c.index-stores-i.result c.requires.rows.1 c.loop-i-test.true c.index-stores-i.is;
      fresh = fresh_kept c.args.builder.now c.loop-i.builder grows c.args.fresh.now c.requires.fresh;
      puts = writes_kept c.args.builder.now c.loop-i.builder grows c.args.width c.args.puts.now c.requires.puts;
      takes = touches_kept c.args.builder.now c.loop-i.builder grows c.args.takes.now c.requires.takes;
      one = IsOne-stays c.args.builder.now c.loop-i.builder c.args.one grows c.requires.one;
    }

pub loop-i-preserved : goal.loop-i-preserved
loop-i-preserved c =
    let i = c.loop-i.invariant in
    let e = c.in_ok-emit_copy.ensures in
    let n = c.loop-i.i in
    let store = c.index-stores-i.result in
    record {
      fills = subst (Fills c.args.builder.now c.emit_copy.new.builder)
          (wires_more c.args.builder.now c.loop-i.builder c.requires.rows.0 c.args.width c.loop-i.i c.args.stores.now c.index-stores-i.result c.requires.rows.1 c.loop-i-test.true c.index-stores-i.is)
          (Fills-join _ _ _ (flat_map wires_of (take c.loop-i.i c.args.stores.now)) (wires_of c.index-stores-i.result) i.fills e.fills);
      runs = λ first stores s run k other l.
          let before = runs_earlier _ _ s e.fills.grows run in
          let is : IsStore c.loop-i.builder (first + n) c.args.width c.args.depth store =
          store_stays c.args.builder.now c.loop-i.builder (first + n) c.args.width c.args.depth store i.fills.grows (subst (IsStore c.args.builder.now (first + n) c.args.width c.args.depth) (sym c.index-stores-i.is) (stores n store c.loop-i-test.true)) in
          below_more
          (λ k. (other : Store) → RunsQueue s (first + k) c.args.depth (slice_index_or c.args.stores.now k other) k c.args.fresh.now c.args.puts.now c.args.takes.now)
          c.loop-i.i
          (λ k l other. i.runs first stores s before k other l)
          (λ other.
          subst (λ st. RunsQueue s (first + n) c.args.depth st n c.args.fresh.now c.args.puts.now c.args.takes.now) (c.index-stores-i.is ∙ get_or_default c.args.stores.now n store other c.loop-i-test.true)
          (e.runs (first + n) is s run))
          k l other;
    }

pub returns-clause-fills : goal.returns-clause-fills
returns-clause-fills c =
    subst (λ xs. Fills c.args.builder.now c.loop-i.builder (flat_map wires_of xs)) (take_all c.loop-i.i c.args.stores.now (let past = c.loop-i-test.false in omega (arith, past))) c.loop-i.invariant.fills

pub returns-clause-runs : goal.returns-clause-runs
returns-clause-runs c = λ first stores s run k other l.
    let past = c.loop-i-test.false in
    c.loop-i.invariant.runs first stores s run k other (omega (arith, past, l))
