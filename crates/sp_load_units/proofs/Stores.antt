-- The units that store to a DRAM, among a draft's cells and among those of transfers.
use Rattle.std.proofs.Common.{◌≡◌, ℕ, ◌==◌, Bool, true, false, if◌then◌else◌, List, [], ◌∷◌, ◌++◌, append_assoc, refl, sym, ap, ◌∙◌}
use Rattle.std.proofs.lemmas.List.{append-nil}
use Rattle.sp_netlist.specs.Cells.{load_unit, store_unit}
use Rattle.sp_netlist.specs.Draft.{Draft}
use Rattle.sp_channels.specs.declared.ports.LoadPort.{LoadPort}
use Rattle.sp_channels.specs.declared.ports.StorePort.{StorePort}
use Rattle.sp_dram_words.specs.Units.{StoreNets, UnitsJoin, units_in}
use Rattle.sp_load_units.specs.declared.unit.TransferUnit.{TransferUnit}
use Rattle.sp_load_units.specs.declared.unit.UnitPort.TheVariants.{Loads, Stores}
use Rattle.sp_load_units.specs.Units.{StoresBehind, stores_by, stores_to}

in_both : (b : Bool) (us : List StoreNets) → us ≡ (if b then us else us)
in_both true us = refl
in_both false us = refl

module _ (join : UnitsJoin) (old new : Draft) (channel dram : ℕ) where
  -- behind a unit that loads
  pub load_behind : (port : LoadPort) → new.cells ≡ old.cells ++ load_unit channel dram port.ready port.word port.request port.last port.address ∷ [] → StoresBehind old new dram (Loads port)
  load_behind port stands r =
      ap (units_in r) stands ∙ join r old.cells (load_unit channel dram port.ready port.word port.request port.last port.address ∷ []) ∙ ap (λ us. units_in r old.cells ++ us) (in_both (dram == r) [])

  -- behind one that stores
  pub store_behind : (port : StorePort) → new.cells ≡ old.cells ++ store_unit channel dram port.ready port.request port.last port.address port.word ∷ [] → StoresBehind old new dram (Stores port)
  store_behind port stands r = ap (units_in r) stands ∙ join r old.cells (store_unit channel dram port.ready port.request port.last port.address port.word ∷ [])

-- those of one transfer
pub one_stores : (r : ℕ) (unit : TransferUnit) → (if unit.transfer.dram == r then stores_by unit.port else []) ≡ stores_to r (unit ∷ [])
one_stores r unit = by (unit.transfer.dram == r)
  where
    by : (b : Bool) → (if b then stores_by unit.port else []) ≡ (if b then stores_by unit.port ++ [] else [])
    by true = sym (append-nil (stores_by unit.port))
    by false = refl

-- those of transfers behind others
pub stores_join : (r : ℕ) (units more : List TransferUnit) → stores_to r (units ++ more) ≡ stores_to r units ++ stores_to r more
stores_join r [] more = refl
stores_join r (unit ∷ units) more = by (unit.transfer.dram == r) (stores_join r units more)
  where
    by : (b : Bool) → stores_to r (units ++ more) ≡ stores_to r units ++ stores_to r more
        → (if b then stores_by unit.port ++ stores_to r (units ++ more) else stores_to r (units ++ more)) ≡ (if b then stores_by unit.port ++ stores_to r units else stores_to r units) ++ stores_to r more
    by true e = ap (λ us. stores_by unit.port ++ us) e ∙ sym (append_assoc (stores_by unit.port) (stores_to r units) (stores_to r more))
    by false e = e
