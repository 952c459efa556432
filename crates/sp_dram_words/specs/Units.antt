-- The units that store to a DRAM, and what they make of its words from cycle to cycle, as statements.
use Rattle.std.specs.Prelude.{◌≡◌, ℕ, suc, ◌<◌, ◌==◌, ◌&&◌, if◌then◌else◌, List, [], ◌∷◌, ◌++◌, map, slice_index}
use Rattle.sp_words.specs.declared.types.Ty.{Ty}
use Rattle.sp_words.specs.Interface.{word_count}
use Rattle.sp_netlist.specs.Cells.{PlainCell, dram_cell, store_unit}
use Rattle.sp_netlist.specs.Signals.{Setting, Signals, IsRun, given_words}

-- the nets by which a unit stores: in each cycle in which it is ready its word goes to its address
pub record StoreNets : Type 0 where
  pub ready : ℕ
  pub address : ℕ
  pub word : ℕ

-- a unit, with the number of its store's access in the timeline
pub record StoreUnit : Type 0 where
  pub nets : StoreNets
  pub number : ℕ

abbrev pub nets_of : List StoreUnit → List StoreNets
nets_of units = map (λ (u : StoreUnit). u.nets) units

-- the units of a DRAM among cells, in their order
abbrev pub units_in : (dram : ℕ) → List PlainCell → List StoreNets
units_in r [] = []
units_in r (store_unit channel into ready request last at word ∷ cells) =
    if into == r then record { ready = ready; address = at; word = word } ∷ units_in r cells else units_in r cells
units_in r (cell ∷ cells) = units_in r cells

-- a word after the units of a cycle, at the nets' words; of several units that store it the last one's stays
abbrev pub word_after : List StoreNets → (words : ℕ → ℕ) → (element old : ℕ) → ℕ
word_after [] words i old = old
word_after (u ∷ units) words i old = word_after units words i (if (words u.ready == 1) && (words u.address == i) then words u.word else old)

-- a DRAM of so many words has these at first, and after each cycle what its units leave
pub record RunsDram (s : Signals) (dram size : ℕ) (given : (element : ℕ) → ℕ) (units : List StoreNets) : Type 0 where
  pub begins : (i : ℕ) → i < size → s.dram 0 dram i ≡ given i
  pub goes : (t i : ℕ) → i < size → s.dram (suc t) dram i ≡ word_after units (s.net t) i (s.dram t dram i)

-- so it is in a run of a netlist that has the DRAM's cell, by its units among all cells, whatever their numbers
abbrev pub DramsRun : Type 0
DramsRun =
    (g : Setting) (s : Signals) → IsRun g s → (before after : List PlainCell) (dram : ℕ) (name : List ℕ) (ty : Ty) (dims : List ℕ) → g.cells ≡ before ++ dram_cell dram name ty dims ∷ after
    → (units : List StoreUnit) → nets_of units ≡ units_in dram g.cells → RunsDram s dram (word_count dims) (slice_index (given_words g dram)) (nets_of units)

-- the units of cells behind others
abbrev pub UnitsJoin : Type 0
UnitsJoin = (dram : ℕ) (cells more : List PlainCell) → units_in dram (cells ++ more) ≡ units_in dram cells ++ units_in dram more
