use Rattle.sp_core.specs.CoreParts.{plain_core}
use Rattle.sp_access_nets.specs.Accesses.{copy_in}
use Rattle.sp_stored_cores.specs.Loads.{IsLoadWrite}
use Rattle.sp_lower.proofs.LoadsFitting.{load_fits, load_fills}
use Rattle.sp_lower.proofs.LoadsWriting.{copy_fits, copy_later, word_stands, write_stands}
use Rattle.sp_lower.proofs.LoadsRunning.{load_run}
use Rattle.sp_lower.proofs.loads_emit.emit_one.Goals as goal

pub emit_load_to-requires-clause-part : goal.emit_load_to-requires-clause-part
emit_load_to-requires-clause-part c =
    load_fits c.args.builder.now (plain_core c.args.core.now) c.args.unit.now c.args.slice.now c.in_ok-part.part c.requires.unit c.requires.rise c.requires.slice c.in_ok-part.ensures

pub returns-clause-fills : goal.returns-clause-fills
returns-clause-fills c = load_fills c.args.builder.now c.emit_load_to.new.builder (plain_core c.args.core.now) c.args.unit.now c.args.slice.now c.in_ok-part.part c.in_ok-part.ensures c.in_ok-loaded.ensures.fills

pub returns-clause-stands : goal.returns-clause-stands
returns-clause-stands c =
    let core = plain_core c.args.core.now in
    let unit = c.args.unit.now in
    let part = c.in_ok-part.part in
    let old = c.args.builder.now in
    let new = c.emit_load_to.new.builder in
    let copy = copy_in c.args.names.now unit.transfer.number in
    let grows = c.in_ok-loaded.ensures.fills.grows in
    let e = c.in_ok-access.ensures in
    let write : IsLoadWrite unit.transfer.number unit.transfer.mem copy part c.in_ok-loaded.loaded c.in_ok-access.access = record {
      number_is = e.number;
      mem_is = e.mem;
      kind_is = e.kind;
      enable = e.enable;
      operands = e.operands;
      copied = e.copy;
      unanswered = e.answer;
    } in
    write_stands new core unit.transfer.number unit.transfer.mem copy part c.in_ok-loaded.loaded c.in_ok-access.access write c.requires.unit.of_core.has_mem (word_stands old new core unit part c.requires.unit grows c.in_ok-part.ensures.port) c.in_ok-loaded.ensures.nets
    (c.has_each_index.ensures c.if-not-has_each_index.false) (copy_later old new copy grows (copy_fits old c.args.names.now unit.transfer.number c.requires.names))

pub returns-clause-runs : goal.returns-clause-runs
returns-clause-runs c = λ s r.
    let core = plain_core c.args.core.now in
    let unit = c.args.unit.now in
    let e = c.in_ok-access.ensures in
    let write : IsLoadWrite unit.transfer.number unit.transfer.mem (copy_in c.args.names.now unit.transfer.number) c.in_ok-part.part c.in_ok-loaded.loaded c.in_ok-access.access = record {
      number_is = e.number;
      mem_is = e.mem;
      kind_is = e.kind;
      enable = e.enable;
      operands = e.operands;
      copied = e.copy;
      unanswered = e.answer;
    } in
    load_run c.args.builder.now c.emit_load_to.new.builder core c.args.names.now unit c.args.slice.now c.in_ok-part.part c.in_ok-loaded.loaded c.in_ok-access.access c.requires.unit c.in_ok-loaded.ensures.fills.grows
    c.requires.slice.node c.in_ok-part.ensures c.in_ok-loaded.ensures.done write s r (c.in_ok-loaded.ensures.runs s r)
