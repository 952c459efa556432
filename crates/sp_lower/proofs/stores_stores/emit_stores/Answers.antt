use Rattle.sp_core.specs.CoreParts.{plain_core}
use Rattle.sp_lower.proofs.StoresAdding.{all_drive, all_stand, all_run}
use Rattle.sp_lower.proofs.stores_stores.emit_stores.Goals as goal

pub returns-clause-drives : goal.returns-clause-drives
returns-clause-drives c =
    all_drive (plain_core c.args.core.now) c.args.names.now c.args.builder.now c.emit_each.new.builder c.args.units.now c.args.slices.now c.new-accesses.result.items c.emit_each.new.accesses.items c.in_ok-emit_each.ensures c.new-accesses.ensures.items

pub returns-clause-stand : goal.returns-clause-stand
returns-clause-stand c =
    all_stand (plain_core c.args.core.now) c.args.names.now c.args.builder.now c.emit_each.new.builder c.args.units.now c.args.slices.now c.new-accesses.result.items c.emit_each.new.accesses.items c.in_ok-emit_each.ensures c.new-accesses.ensures.items

pub returns-clause-runs : goal.returns-clause-runs
returns-clause-runs c =
    all_run (plain_core c.args.core.now) c.args.names.now c.args.builder.now c.emit_each.new.builder c.args.units.now c.args.slices.now c.new-accesses.result.items c.emit_each.new.accesses.items c.in_ok-emit_each.ensures c.new-accesses.ensures.items
