use Rattle.std.proofs.Common.{◌∷◌, All, rules, sym, subst}
use Rattle.std.proofs.lemmas.List.Elements.{All-head, All-tail}
use Rattle.sp_core.specs.CoreParts.{plain_core}
use Rattle.sp_op_nets.specs.Reserved.{Rise}
use Rattle.sp_load_units.specs.Units.{unit_wires_in}
use Rattle.sp_lower.specs.LoadsParts.{AreSlicesStanding}
use Rattle.sp_lower.proofs.LoadsAdding.{others, first_is, none_is, no_slices, no_units, own_rise, later_rise, slices_later, names_later}
use Rattle.sp_lower.specs.StoresParts.{AddsReads, ReadsSram, StoreUnitStands}
use Rattle.sp_lower.proofs.StoresAdding.{adds_none, adds_more}
use Rattle.sp_lower.proofs.StoresLater.{stores_open, stores_later}
use Rattle.sp_lower.proofs.stores_stores.+emit_each.Goals as goal

pub returns-in_default : goal.returns-in_default
returns-in_default t c =
    let core = plain_core c.args.core.now in
    let old = c.args.builder.now in
    let none = none_is c.args.units.now c.in_default.len_below in
    adds_none core c.args.names.now old c.args.units.now c.args.slices.now c.args.accesses.now.items none (no_slices old core c.args.units.now c.args.slices.now none c.requires.slices)

pub returns-in_default-slices : goal.returns-in_default-slices
returns-in_default-slices t c =
    let core = plain_core c.args.core.now in
    let old = c.args.builder.now in
    let none = none_is c.args.slices.now c.in_default-slices.len_below in
    adds_none core c.args.names.now old c.args.units.now c.args.slices.now c.args.accesses.now.items (no_units old core c.args.units.now c.args.slices.now none c.requires.slices) none

pub emit_if_store-requires : goal.emit_if_store-requires
emit_if_store-requires t c =
    let core = plain_core c.args.core.now in
    let old = c.args.builder.now in
    let units = c.args.units.now in
    let unit = c.unit-item.result in
    let slices = c.args.slices.now in
    let slice = c.slice-item.result in
    let units_are = first_is units unit c.in-len1-up.len_at_least c.unit-item.is in
    let slices_are = first_is slices slice c.in-len1-up-slices.len_at_least c.slice-item.is in
    record {
      unit = All-head (StoreUnitStands old core) unit (others units) (subst (All (StoreUnitStands old core)) units_are c.requires.units);
      sram = All-head (ReadsSram core) unit (others units) (subst (All (ReadsSram core)) units_are c.requires.srams);
      rise = own_rise unit (others units) (subst (λ us. Rise 0 (unit_wires_in us)) units_are c.requires.rise);
      slice = (subst (λ us. AreSlicesStanding old core us (slice ∷ others slices)) units_are (subst (AreSlicesStanding old core units) slices_are c.requires.slices)).0;
      names = c.requires.names;
    }

pub emit_each-requires : goal.emit_each-requires
emit_each-requires t c =
    let core = plain_core c.args.core.now in
    let old = c.args.builder.now in
    let mid = c.emit_if_store.new.builder in
    let units = c.args.units.now in
    let unit = c.unit-item.result in
    let slices = c.args.slices.now in
    let slice = c.slice-item.result in
    let units_are = first_is units unit c.in-len1-up.len_at_least c.unit-item.is in
    let slices_are = first_is slices slice c.in-len1-up-slices.len_at_least c.slice-item.is in
    let rise = subst (λ us. Rise 0 (unit_wires_in us)) units_are c.requires.rise in
    let one = c.in_ok-emit_if_store.ensures in
    let grows = one.drives.grows in
    let later = stores_later old mid core unit (others units) _ one.drives rise (All-tail (StoreUnitStands old core) unit (others units) (subst (All (StoreUnitStands old core)) units_are c.requires.units)) in
    let stand = subst (λ us. AreSlicesStanding old core us (slice ∷ others slices)) units_are (subst (AreSlicesStanding old core units) slices_are c.requires.slices) in
    let srams = All-tail (ReadsSram core) unit (others units) (subst (All (ReadsSram core)) units_are c.requires.srams) in
    (search rules, (later, (srams, (later_rise unit (others units) rise, (slices_later old mid core (others units) (others slices) grows stand.1, names_later old mid c.args.names.now grows c.requires.names)))))

pub returns : goal.returns
returns t c =
    let core = plain_core c.args.core.now in
    let names = c.args.names.now in
    let old = c.args.builder.now in
    let mid = c.emit_if_store.new.builder in
    let new = c.emit_each.new.builder in
    let units = c.args.units.now in
    let unit = c.unit-item.result in
    let slices = c.args.slices.now in
    let slice = c.slice-item.result in
    let before = c.args.accesses.now.items in
    let after = c.emit_each.new.accesses.items in
    let units_are = first_is units unit c.in-len1-up.len_at_least c.unit-item.is in
    let stand = All-tail (StoreUnitStands old core) unit (others units) (subst (All (StoreUnitStands old core)) units_are c.requires.units) in
    subst (λ us. AddsReads old new core names us slices before after) (sym units_are)
    (subst (λ xs. AddsReads old new core names (unit ∷ others units) xs before after) (sym (first_is slices slice c.in-len1-up-slices.len_at_least c.slice-item.is))
    (adds_more core names old mid new unit (others units) slice (others slices) before c.emit_if_store.new.accesses.items after (stores_open old core (others units) stand) c.in_ok-emit_if_store.ensures c.in_ok-emit_each.ensures))
