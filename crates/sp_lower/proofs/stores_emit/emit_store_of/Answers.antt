use Rattle.std.proofs.Common.{sym, ap, ◌∙◌}
use Rattle.sp_gates.proofs.Growing.{Grows-join, HasNet-stays}
use Rattle.sp_core.specs.CoreParts.{plain_core}
use Rattle.sp_core.specs.Latency.{read_latency}
use Rattle.sp_access_nets.specs.Accesses.{copy_in}
use Rattle.sp_lower.proofs.LoadsWriting.{copy_fits, copy_later}
use Rattle.sp_load_units.specs.Units.{unit_wires}
use Rattle.sp_stored_cores.specs.Stores.{IsStoreRead}
use Rattle.sp_lower.specs.StoresParts.{two_later}
use Rattle.sp_lower.proofs.StoresFitting.{store_fits, store_fills, slice_later, own_net, own_awaits}
use Rattle.sp_lower.proofs.StoresReserving.{own_open, unit_later, drives, found_awaits}
use Rattle.sp_lower.proofs.StoresReading.{read_stands}
use Rattle.sp_lower.proofs.StoresRunning.{store_run}
use Rattle.sp_lower.proofs.stores_emit.emit_store_of.Goals as goal

pub reserve-requires : goal.reserve-requires
reserve-requires c = (c.memory_width-width.ensures.has_bits, c.memory_width-width.ensures.in_a_word)

pub emit_store_to-requires-clause-part : goal.emit_store_to-requires-clause-part
emit_store_to-requires-clause-part c =
    let core = plain_core c.args.core.now in
    let unit = c.args.unit.now in
    let slice = c.args.slice.now in
    let old = c.args.builder.now in
    let mid = c.reserve.new.builder in
    let found = c.in_ok-found.found in
    let width = c.memory_width-width.result in
    store_fits mid core unit slice found width c.in_ok-part.part (unit_later old mid core unit found c.in_ok-found.ensures.opens c.requires.unit) c.requires.rise (slice_later old mid core unit slice c.in_ok-found.ensures.opens.grows c.requires.slice) c.in_ok-part.ensures
    c.memory_width-width.ensures.value (c.memory_width-width.ensures.has_bits, c.memory_width-width.ensures.in_a_word) c.in_ok-found.ensures.net

pub emit_store_to-requires-clause-done : goal.emit_store_to-requires-clause-done
emit_store_to-requires-clause-done c = (unit_later c.args.builder.now c.reserve.new.builder (plain_core c.args.core.now) c.args.unit.now c.in_ok-found.found c.in_ok-found.ensures.opens c.requires.unit).awaits

pub returns-clause-drives : goal.returns-clause-drives
returns-clause-drives c =
    let core = plain_core c.args.core.now in
    let unit = c.args.unit.now in
    let old = c.args.builder.now in
    let mid = c.reserve.new.builder in
    let new = c.emit_store_to.new.builder in
    let found = c.in_ok-found.found in
    let width = c.memory_width-width.result in
    drives old mid new (unit_wires unit) found width c.in_ok-found.ensures.opens c.in_ok-found.ensures.awaits (own_open old core unit c.requires.unit) (store_fills mid new core unit c.args.slice.now found width c.in_ok-part.part c.in_ok-part.ensures c.in_ok-stored.ensures.fills)
    c.read_of-access.result.answer c.read_of-access.ensures.answer

pub returns-clause-stands : goal.returns-clause-stands
returns-clause-stands c =
    let core = plain_core c.args.core.now in
    let unit = c.args.unit.now in
    let slice = c.args.slice.now in
    let part = c.in_ok-part.part in
    let p = c.in_ok-part.ensures in
    let old = c.args.builder.now in
    let mid = c.reserve.new.builder in
    let new = c.emit_store_to.new.builder in
    let found = c.in_ok-found.found in
    let width = c.memory_width-width.result in
    let stored = c.in_ok-stored.stored in
    let fills = store_fills mid new core unit slice found width part p c.in_ok-stored.ensures.fills in
    let copy = copy_in c.args.names.now unit.transfer.number in
    let grows = Grows-join old mid new c.in_ok-found.ensures.opens.grows fills.grows in
    let e = c.read_of-access.ensures in
    let read : IsStoreRead core unit.transfer.number unit.transfer.mem copy part stored c.read_of-access.result = record {
      number_is = e.number;
      mem_is = e.mem;
      kind_is = e.kind;
      enable = e.enable;
      operands = e.operands;
      copied = e.copy;
      word = two_later found;
      answer = e.answer;
      found = sym p.found;
      after = ap read_latency (sym c.requires.sram);
    } in
    let awaits = found_awaits old mid new (unit_wires unit) found width c.in_ok-found.ensures.opens c.in_ok-found.ensures.awaits (own_open old core unit c.requires.unit) fills in
    let net = HasNet-stays mid new found width fills.grows c.in_ok-found.ensures.net in
    read_stands new core unit.transfer.number unit.transfer.mem copy part stored c.read_of-access.result read c.requires.sram (p.width ∙ c.memory_width-width.ensures.value) c.requires.unit.of_core.has_mem
    (own_net new core unit slice found width part p net) (own_awaits new core unit slice found width part p awaits) c.in_ok-stored.ensures.nets (c.has_each_index.ensures c.if-not-has_each_index.false) (copy_later old new copy grows (copy_fits old c.args.names.now unit.transfer.number c.requires.names))

pub returns-clause-runs : goal.returns-clause-runs
returns-clause-runs c = λ s r.
    let core = plain_core c.args.core.now in
    let unit = c.args.unit.now in
    let slice = c.args.slice.now in
    let part = c.in_ok-part.part in
    let p = c.in_ok-part.ensures in
    let old = c.args.builder.now in
    let mid = c.reserve.new.builder in
    let new = c.emit_store_to.new.builder in
    let found = c.in_ok-found.found in
    let grows = Grows-join old mid new c.in_ok-found.ensures.opens.grows c.in_ok-stored.ensures.fills.grows in
    let e = c.read_of-access.ensures in
    let read : IsStoreRead core unit.transfer.number unit.transfer.mem (copy_in c.args.names.now unit.transfer.number) part c.in_ok-stored.stored c.read_of-access.result = record {
      number_is = e.number;
      mem_is = e.mem;
      kind_is = e.kind;
      enable = e.enable;
      operands = e.operands;
      copied = e.copy;
      word = two_later found;
      answer = e.answer;
      found = sym p.found;
      after = ap read_latency (sym c.requires.sram);
    } in
    store_run old new core c.args.names.now unit slice found c.memory_width-width.result part c.in_ok-stored.stored c.read_of-access.result c.requires.unit grows c.requires.slice.node p c.in_ok-stored.ensures.done read s r (c.in_ok-stored.ensures.runs s r)
