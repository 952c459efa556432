use Rattle.std.proofs.Common.{◌++◌, List, flat_map, subst}
use Rattle.sp_gates.specs.Grows.{Fills}
use Rattle.sp_gates.proofs.Growing.{HasNet-stays}
use Rattle.sp_mem.specs.Fits.{words_of}
use Rattle.sp_mem.proofs.Waiting.{awaits_kept}
use Rattle.sp_taps.specs.declared.store.Store.{Store}
use Rattle.sp_taps.specs.Wires.{wires_of}
use Rattle.sp_worked_parts.proofs.Closing.{awaits_promises}
use Rattle.sp_worked_parts.proofs.Fitting.{memory_fits, memory_stores, memory_drives}
use Rattle.sp_worked_parts.proofs.memory.emit.Goals as goal

pub emit_banked-requires-clause-fits : goal.emit_banked-requires-clause-fits
emit_banked-requires-clause-fits c = memory_fits c.in_ok-asked.asked c.args.y c.args.z c.in_ok-part.part c.in_ok-part.ensures c.ask.new.builder c.in_ok-asked.ensures.asked (awaits_kept _ _ _ _ c.in_ok-asked.ensures.fills (awaits_promises _ _ (flat_map wires_of c.in_ok-stores.stores.items) c.args.y c.in_ok-stores.ensures.promises c.requires.y)) (awaits_kept _ _ _ _ c.in_ok-asked.ensures.fills (awaits_promises _ _ (flat_map wires_of c.in_ok-stores.stores.items) c.args.z c.in_ok-stores.ensures.promises c.requires.z)) c.requires.apart

pub emit_banked-requires-clause-stores : goal.emit_banked-requires-clause-stores
emit_banked-requires-clause-stores c =
    let e = c.in_ok-stores.ensures in
    rw c.deref.ensures.value
    (memory_stores c.in_ok-asked.asked c.args.y c.args.z c.in_ok-part.part c.in_ok-part.ensures c.add_stores.new.builder c.ask.new.builder c.in_ok-stores.stores.items c.in_ok-asked.ensures.fills e.each (_, e.rows) e.wires e.stores)

pub returns-clause-fills : goal.returns-clause-fills
returns-clause-fills c =
    memory_drives c.in_ok-asked.asked c.args.y c.args.z c.in_ok-part.part c.in_ok-part.ensures c.args.builder.now c.add_stores.new.builder c.ask.new.builder c.emit_banked.new.builder c.in_ok-stores.stores.items c.in_ok-stores.ensures.promises c.in_ok-asked.ensures.fills
    (subst (λ (ss : List Store). Fills c.ask.new.builder c.emit_banked.new.builder (flat_map wires_of ss ++ words_of c.in_ok-part.part.reads.items)) c.deref.ensures.value c.in_ok-emit_banked.ensures.fills)

pub returns-clause-done : goal.returns-clause-done
returns-clause-done c = HasNet-stays _ _ _ _ c.in_ok-emit_banked.ensures.fills.grows c.in_ok-asked.ensures.asked.done_net
