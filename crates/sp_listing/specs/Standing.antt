-- What a reader of a listing keeps of the cells so far, and of the lines of the whole text.
use Rattle.std.specs.Prelude.{◌≡◌, ℕ, ◌+◌, List, Bool, true, false, IsTrue, ◌↔◌, filter_map, count_by, Contains}
use Rattle.std.specs.Ordering.{nat_cmp}
use Rattle.std.specs.List.{list_any}
use Rattle.std.specs.Str.{bytes_eq}
use Rattle.std.specs.BTreeSet.{BTreeSet, contains, contains_text}
use Rattle.std.specs.declared.string.String.{String}
use Rattle.sp_netlist.specs.Cells.{PlainCell, in_cell, out_cell, done_cell, bank_cell, dram_cell, load_unit, store_unit}
use Rattle.sp_netlist.specs.Rules.{is_done, is_bank, is_dram, is_unit, in_name, out_name, dram_name}
use Rattle.sp_listing.specs.declared.counts.Counts.{Counts}
use Rattle.sp_listing.specs.declared.names.Names.{Names}
use Rattle.sp_listing.specs.declared.declared_lines.DeclaredLines.{DeclaredLines}
use Rattle.sp_listing.specs.Reading.{HasBank, HasDram}

-- what a cell obeys after those before it: the part on numbers, and the part on names
abbrev pub InOrder : List PlainCell → PlainCell → Type 0
InOrder before (done_cell net) = count_by is_done before ≡ 0
InOrder before (bank_cell bank width len) = bank ≡ count_by is_bank before
InOrder before (dram_cell dram name ty dims) = dram ≡ count_by is_dram before
InOrder before (load_unit channel dram ready net request last addr) = channel ≡ count_by is_unit before
InOrder before (store_unit channel dram ready request last addr word) = channel ≡ count_by is_unit before
InOrder before cell = Unit {0}

abbrev pub IsNew : List PlainCell → PlainCell → Type 0
IsNew before (in_cell name net ty) = Contains (filter_map in_name before) name → ⊥
IsNew before (out_cell name net ty) = Contains (filter_map out_name before) name → ⊥
IsNew before (dram_cell dram name ty dims) = Contains (filter_map dram_name before) name → ⊥
IsNew before cell = Unit {0}

-- the counts are those of these cells
pub record AreCounts (before : List PlainCell) (counts : Counts) : Type 0 where
  pub banks : counts.banks ≡ count_by is_bank before
  pub drams : counts.drams ≡ count_by is_dram before
  pub units : counts.units ≡ count_by is_unit before
  pub dones : counts.dones ≡ count_by is_done before

abbrev pub one_if : Bool → ℕ
one_if true = 1
one_if false = 0

-- the counts after one more cell
pub record Counted (old : Counts) (cell : PlainCell) (new : Counts) : Type 0 where
  pub banks : new.banks ≡ old.banks + one_if (is_bank cell)
  pub drams : new.drams ≡ old.drams + one_if (is_dram cell)
  pub units : new.units ≡ old.units + one_if (is_unit cell)
  pub dones : new.dones ≡ old.dones + one_if (is_done cell)

-- a set has just these names, and just these numbers
abbrev pub HasNames : {Y : Type 0} → List (List ℕ) → BTreeSet (String Y) → Type 0
HasNames names set = (name : List ℕ) → contains_text set name ≡ list_any (bytes_eq name) names

pub record AreNames (before : List PlainCell) (names : Names) : Type 0 where
  pub ins : HasNames (filter_map in_name before) names.ins
  pub outs : HasNames (filter_map out_name before) names.outs
  pub drams : HasNames (filter_map dram_name before) names.drams

-- the banks and the DRAMs that have a line among these
pub record AreDeclared (lines : List (List ℕ)) (declared : DeclaredLines) : Type 0 where
  pub banks : (bank : ℕ) → IsTrue (contains nat_cmp declared.banks bank) ↔ HasBank lines bank
  pub drams : (dram : ℕ) → IsTrue (contains nat_cmp declared.drams dram) ↔ HasDram lines dram
