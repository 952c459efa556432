use Rattle.std.proofs.Common.{◌++◌, [], List, flat_map, slice_index_or, sym, subst, arith}
use Rattle.sp_words.specs.Types.{width_of}
use Rattle.sp_gates.proofs.Growing.{Fills-join, IsOne-stays}
use Rattle.sp_gates.proofs.Running.{runs_earlier}
use Rattle.sp_mem.specs.declared.part.Fresh.{Fresh}
use Rattle.sp_mem.specs.declared.part.Touch.{Touch}
use Rattle.sp_mem.specs.Fits.{words_of}
use Rattle.sp_mem.proofs.Kept.{fresh_kept, writes_kept}
use Rattle.sp_taps.specs.Wires.{wires_of}
use Rattle.sp_taps.specs.Stores.{AreStores}
use Rattle.sp_taps.proofs.Rows.{stores_kept}
use Rattle.sp_ring.proofs.Going.{wires_beside}
use Rattle.sp_queue_copies.specs.Events.{RunQueues}
use Rattle.sp_queue.proofs.Taken.{takes_fit_kept, takes_fit_beside}
use Rattle.sp_queue.proofs.queue.emit_queue.Goals as goal

pub emit_copies-requires-clause-few : goal.emit_copies-requires-clause-few
emit_copies-requires-clause-few c = let each = c.requires.stores.each in omega (arith, each)

pub emit_copies-requires-clause-depth : goal.emit_copies-requires-clause-depth
emit_copies-requires-clause-depth c = c.requires.fits.depth

pub emit_copies-requires-clause-rows : goal.emit_copies-requires-clause-rows
emit_copies-requires-clause-rows c = c.requires.stores.rows

pub emit_copies-requires-clause-wires : goal.emit_copies-requires-clause-wires
emit_copies-requires-clause-wires c =
    rw c.width.ensures.value (λ k d l. wires_beside c.args.builder.now c.one.new.builder (width_of c.args.part.now.ty) (slice_index_or c.args.stores.now k d) c.in_ok-one.ensures.fills (c.requires.stores.wires k d l))

pub emit_copies-requires-clause-fresh : goal.emit_copies-requires-clause-fresh
emit_copies-requires-clause-fresh c = rw c.deref.ensures.value (fresh_kept _ _ c.in_ok-one.ensures.fills.grows c.args.part.now.fresh.items c.requires.fits.fresh)

pub emit_copies-requires-clause-puts : goal.emit_copies-requires-clause-puts
emit_copies-requires-clause-puts c = rw (c.deref-2.ensures.value, c.width.ensures.value) (writes_kept _ _ c.in_ok-one.ensures.fills.grows (width_of c.args.part.now.ty) c.args.part.now.puts.items c.requires.fits.puts)

pub emit_copies-requires-clause-takes : goal.emit_copies-requires-clause-takes
emit_copies-requires-clause-takes c = rw c.deref-3.ensures.value (takes_fit_kept _ _ c.args.part.now c.in_ok-one.ensures.fills c.requires.fits.takes).takes

pub emit_takers-requires-clause-takes : goal.emit_takers-requires-clause-takes
emit_takers-requires-clause-takes c =
    takes_fit_beside c.one.new.builder c.emit_copies.new.builder c.args.part.now c.args.stores.now c.in_ok-emit_copies.ensures.fills
    (λ k d l. wires_beside c.args.builder.now c.one.new.builder (width_of c.args.part.now.ty) (slice_index_or c.args.stores.now k d) c.in_ok-one.ensures.fills (c.requires.stores.wires k d l))
    (takes_fit_kept _ _ c.args.part.now c.in_ok-one.ensures.fills c.requires.fits.takes)

pub emit_takers-requires-clause-banks : goal.emit_takers-requires-clause-banks
emit_takers-requires-clause-banks c = c.requires.stores.each

pub emit_takers-requires-clause-stores : goal.emit_takers-requires-clause-stores
emit_takers-requires-clause-stores c =
    stores_kept _ _ _ _ _ c.args.stores.now c.in_ok-emit_copies.ensures.fills.grows (stores_kept _ _ _ _ _ c.args.stores.now c.in_ok-one.ensures.fills.grows c.requires.stores.banks)

pub emit_takers-requires-clause-one : goal.emit_takers-requires-clause-one
emit_takers-requires-clause-one c = IsOne-stays _ _ _ c.in_ok-emit_copies.ensures.fills.grows c.in_ok-one.ensures.one

pub returns-clause-fills : goal.returns-clause-fills
returns-clause-fills c =
    Fills-join _ _ _ [] (flat_map wires_of c.args.stores.now ++ words_of c.args.part.now.takes.items) c.in_ok-one.ensures.fills
    (Fills-join _ _ _ (flat_map wires_of c.args.stores.now) (words_of c.args.part.now.takes.items) c.in_ok-emit_copies.ensures.fills c.in_ok-emit_takers.ensures.fills)

pub returns-clause-stores_stay : goal.returns-clause-stores_stay
returns-clause-stores_stay c = stores_kept _ _ _ _ _ c.args.stores.now (returns-clause-fills c).grows c.requires.stores.banks

pub returns-clause-copies : goal.returns-clause-copies
returns-clause-copies c = λ s run.
    let before = runs_earlier _ _ s c.in_ok-emit_takers.ensures.fills.grows run in
    let banks : AreStores c.one.new.builder c.args.part.now.bank c.width.result c.args.part.now.depth c.args.stores.now =
    subst (λ w. AreStores c.one.new.builder c.args.part.now.bank w c.args.part.now.depth c.args.stores.now) (sym c.width.ensures.value) (stores_kept _ _ _ _ _ c.args.stores.now c.in_ok-one.ensures.fills.grows c.requires.stores.banks) in
    subst (λ (fs : List Fresh). RunQueues s c.args.part.now.bank c.args.part.now.depth c.args.stores.now fs c.args.part.now.puts.items c.args.part.now.takes.items) c.deref.ensures.value
    (subst (λ (ps : List Touch). RunQueues s c.args.part.now.bank c.args.part.now.depth c.args.stores.now c.deref.result.now ps c.args.part.now.takes.items) c.deref-2.ensures.value
    (subst (λ (ts : List Touch). RunQueues s c.args.part.now.bank c.args.part.now.depth c.args.stores.now c.deref.result.now c.deref-2.result.now ts) c.deref-3.ensures.value
    (c.in_ok-emit_copies.ensures.runs c.args.part.now.bank banks s before)))
