use Rattle.sp_core.specs.CoreParts.{plain_core}
use Rattle.sp_load_units.specs.Units.{unit_wires_in}
use Rattle.sp_lower.proofs.LoadsAdding.{names_later, rise_from_none, slices_later}
use Rattle.sp_lower.proofs.StoresKnowing.{of_units, read_srams}
use Rattle.sp_lower.proofs.StoresBothWays.{still_stand, all_drive, both_stand, both_run}
use Rattle.sp_lower.proofs.stores_transfers.emit_transfers.Goals as goal

pub emit_stores-requires : goal.emit_stores-requires
emit_stores-requires c =
    let core = plain_core c.args.core.now in
    let old = c.args.builder.now in
    let mid = c.emit_loads.new.builder in
    let units = c.args.units.now in
    let slices = c.args.slices.now in
    let fills = c.in_ok-accesses.ensures.fills in
    record {
      units = still_stand old mid core units c.requires.rise.0 c.requires.units c.requires.rise.1 fills;
      srams = read_srams old core units c.root-root.ensures.core c.requires.units;
      rise = rise_from_none c.requires.rise.0 (unit_wires_in units) c.requires.rise.1;
      slices = slices_later old mid core units slices fills.grows (of_units old core units slices c.root-root.ensures.core c.requires.units c.requires.slices);
      names = names_later old mid c.args.names.now fills.grows c.requires.names;
    }

pub returns-clause-drives : goal.returns-clause-drives
returns-clause-drives c =
    all_drive c.args.builder.now c.emit_loads.new.builder (plain_core c.args.core.now) c.args.units.now c.requires.rise.0 c.requires.units c.requires.rise.1 c.in_ok-accesses.ensures.fills
    c.emit_stores.new.builder c.in_ok-accesses.accesses.items c.in_ok-reads.reads.items c.append.new.all.items c.in_ok-append.ensures c.in_ok-accesses.ensures.answers c.in_ok-reads.ensures.drives

pub returns-clause-stand : goal.returns-clause-stand
returns-clause-stand c =
    both_stand c.args.builder.now c.emit_loads.new.builder (plain_core c.args.core.now) c.args.units.now c.requires.rise.0 c.requires.units c.requires.rise.1 c.in_ok-accesses.ensures.fills
    c.emit_stores.new.builder c.in_ok-accesses.accesses.items c.in_ok-reads.reads.items c.append.new.all.items c.in_ok-append.ensures c.in_ok-accesses.ensures.answers c.in_ok-reads.ensures.drives c.in_ok-accesses.ensures.stand c.in_ok-reads.ensures.stand

pub returns-clause-runs : goal.returns-clause-runs
returns-clause-runs c =
    both_run c.args.builder.now c.emit_loads.new.builder (plain_core c.args.core.now) c.args.units.now c.requires.rise.0 c.requires.units c.requires.rise.1 c.in_ok-accesses.ensures.fills
    c.emit_stores.new.builder c.in_ok-accesses.accesses.items c.in_ok-reads.reads.items c.append.new.all.items c.in_ok-append.ensures c.in_ok-accesses.ensures.answers c.in_ok-reads.ensures.drives c.args.names.now c.args.slices.now c.in_ok-accesses.ensures.runs c.in_ok-reads.ensures.runs
