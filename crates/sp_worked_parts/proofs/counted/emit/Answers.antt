use Rattle.std.proofs.Common.{[], ◌++◌, List, flat_map, subst}
use Rattle.sp_gates.specs.Grows.{Fills}
use Rattle.sp_gates.proofs.Growing.{Fills-join, HasNet-stays}
use Rattle.sp_mem.specs.Fits.{words_of}
use Rattle.sp_mem.proofs.Waiting.{awaits_kept}
use Rattle.sp_taps.specs.declared.store.Store.{Store}
use Rattle.sp_taps.specs.Wires.{wires_of}
use Rattle.sp_worked_parts.proofs.Closing.{awaits_promises}
use Rattle.sp_worked_parts.proofs.Storing.{store_fits, store_stores, store_drives}
use Rattle.sp_worked_parts.proofs.counted.emit.Goals as goal

pub delay-requires-clause-net : goal.delay-requires-clause-net
delay-requires-clause-net c = HasNet-stays _ _ _ _ c.in_ok-always.ensures.fills.grows (HasNet-stays _ _ _ _ c.in_ok-place.ensures.fills.grows c.in_ok-stored.ensures.fits.done_net)

pub emit_banked-requires-clause-fits : goal.emit_banked-requires-clause-fits
emit_banked-requires-clause-fits c =
    store_fits c.in_ok-stored.stored c.in_ok-place.place c.args.y c.in_ok-part.part c.in_ok-part.ensures c.delay.new.builder
    (record { enable_net = HasNet-stays _ _ _ _ c.in_ok-done.ensures.fills.grows (HasNet-stays _ _ _ _ c.in_ok-always.ensures.fills.grows (HasNet-stays _ _ _ _ c.in_ok-place.ensures.fills.grows c.in_ok-stored.ensures.fits.enable_net)); element_net = HasNet-stays _ _ _ _ c.in_ok-done.ensures.fills.grows (HasNet-stays _ _ _ _ c.in_ok-always.ensures.fills.grows (HasNet-stays _ _ _ _ c.in_ok-place.ensures.fills.grows c.in_ok-stored.ensures.fits.element_net)); word_net = HasNet-stays _ _ _ _ c.in_ok-done.ensures.fills.grows (HasNet-stays _ _ _ _ c.in_ok-always.ensures.fills.grows (HasNet-stays _ _ _ _ c.in_ok-place.ensures.fills.grows c.in_ok-stored.ensures.fits.word_net)); done_net = HasNet-stays _ _ _ _ c.in_ok-done.ensures.fills.grows (HasNet-stays _ _ _ _ c.in_ok-always.ensures.fills.grows (HasNet-stays _ _ _ _ c.in_ok-place.ensures.fills.grows c.in_ok-stored.ensures.fits.done_net)) })
    (HasNet-stays _ _ _ _ c.in_ok-done.ensures.fills.grows (HasNet-stays _ _ _ _ c.in_ok-always.ensures.fills.grows c.in_ok-place.ensures.net))
    (awaits_kept _ _ _ _ (Fills-join _ _ _ [] [] c.in_ok-stored.ensures.fills (Fills-join _ _ _ [] [] c.in_ok-place.ensures.fills (Fills-join _ _ _ [] [] c.in_ok-always.ensures.fills c.in_ok-done.ensures.fills))) (awaits_promises _ _ (flat_map wires_of c.in_ok-stores.stores.items) c.args.y c.in_ok-stores.ensures.promises c.requires.y))

pub emit_banked-requires-clause-stores : goal.emit_banked-requires-clause-stores
emit_banked-requires-clause-stores c =
    let e = c.in_ok-stores.ensures in
    rw c.deref.ensures.value
    (store_stores c.in_ok-stored.stored c.in_ok-place.place c.args.y c.in_ok-part.part c.in_ok-part.ensures c.add_stores.new.builder c.delay.new.builder c.in_ok-stores.stores.items (Fills-join _ _ _ [] [] c.in_ok-stored.ensures.fills (Fills-join _ _ _ [] [] c.in_ok-place.ensures.fills (Fills-join _ _ _ [] [] c.in_ok-always.ensures.fills c.in_ok-done.ensures.fills))) e.each (_, e.rows) e.wires e.stores)

pub returns-clause-fills : goal.returns-clause-fills
returns-clause-fills c =
    store_drives c.in_ok-stored.stored c.in_ok-place.place c.args.y c.in_ok-part.part c.in_ok-part.ensures c.args.builder.now c.add_stores.new.builder c.delay.new.builder c.emit_banked.new.builder c.in_ok-stores.stores.items c.in_ok-stores.ensures.promises (Fills-join _ _ _ [] [] c.in_ok-stored.ensures.fills (Fills-join _ _ _ [] [] c.in_ok-place.ensures.fills (Fills-join _ _ _ [] [] c.in_ok-always.ensures.fills c.in_ok-done.ensures.fills)))
    (subst (λ (ss : List Store). Fills c.delay.new.builder c.emit_banked.new.builder (flat_map wires_of ss ++ words_of c.in_ok-part.part.reads.items)) c.deref.ensures.value c.in_ok-emit_banked.ensures.fills)

pub returns-clause-done : goal.returns-clause-done
returns-clause-done c = HasNet-stays _ _ _ _ c.in_ok-emit_banked.ensures.fills.grows c.in_ok-done.ensures.net
