use Rattle.std.proofs.Common.{◌≡◌, None}
use Rattle.std.proofs.lemmas.List.Elements.{All-weaker}
use Rattle.sp_core.specs.CoreParts.{plain_core}
use Rattle.sp_access_nets.specs.declared.access.AccessNets.{AccessNets}
use Rattle.sp_tree_handed.specs.Transfers.{transfers_in}
use Rattle.sp_load_units.specs.Units.{unit_wires_in}
use Rattle.sp_lower.specs.LoadsParts.{WriteStands}
use Rattle.sp_lower.proofs.LoadsAdding.{stand_alone, rise_from_none, all_stand, all_run}
use Rattle.sp_lower.proofs.LoadsSlices.{slices_stand}
use Rattle.sp_lower.proofs.LoadsWriting.{no_answers}
use Rattle.sp_lower.proofs.loads_emit.emit_loads.Goals as goal

pub emit_each-requires-clause-units : goal.emit_each-requires-clause-units
emit_each-requires-clause-units c = let core = plain_core c.args.core.now in stand_alone c.args.builder.now core (transfers_in core.root 0 0) c.args.units.now c.requires.units

pub emit_each-requires-clause-slices : goal.emit_each-requires-clause-slices
emit_each-requires-clause-slices c = slices_stand (plain_core c.args.core.now) c.args.builder.now c.args.units.now c.args.slices.now c.root-root.ensures.core c.requires.units c.requires.slices

pub emit_each-requires-clause-rise : goal.emit_each-requires-clause-rise
emit_each-requires-clause-rise c = rise_from_none c.requires.rise.0 (unit_wires_in c.args.units.now) c.requires.rise.1

pub returns-clause-fills : goal.returns-clause-fills
returns-clause-fills c = c.in_ok-emit_each.ensures.fills

pub returns-clause-stand : goal.returns-clause-stand
returns-clause-stand c =
    all_stand (plain_core c.args.core.now) c.args.names.now c.args.builder.now c.emit_each.new.builder c.args.units.now c.args.slices.now c.new-accesses.result.items c.emit_each.new.accesses.items c.in_ok-emit_each.ensures c.new-accesses.ensures.items

pub returns-clause-answers : goal.returns-clause-answers
returns-clause-answers c =
    let core = plain_core c.args.core.now in
    let new = c.emit_each.new.builder in
    let accesses = c.emit_each.new.accesses.items in
    no_answers accesses
    (All-weaker (WriteStands new core) (λ (a : AccessNets). a.answer ≡ None) (λ a h. h.unanswered) accesses
    (all_stand core c.args.names.now c.args.builder.now new c.args.units.now c.args.slices.now c.new-accesses.result.items accesses c.in_ok-emit_each.ensures c.new-accesses.ensures.items))

pub returns-clause-runs : goal.returns-clause-runs
returns-clause-runs c =
    all_run (plain_core c.args.core.now) c.args.names.now c.args.builder.now c.emit_each.new.builder c.args.units.now c.args.slices.now c.new-accesses.result.items c.emit_each.new.accesses.items c.in_ok-emit_each.ensures c.new-accesses.ensures.items
