-- The banks of the SRAMs of a core by a plan, in the order of memories.
use Rattle.std.specs.Prelude.{◌≡◌, ℕ, zero, suc, ◌+◌, ◌*◌, ◌<◌, ◌≤◌, ◌^◌, List, [], ◌++◌, length, map, flat_map, slice_index, slice_index_or, All, Contains, Some}
use Rattle.sp_words.specs.declared.kind.Kind.{Kind}
use Rattle.sp_words.specs.declared.kind.Kind.TheVariants.{Sram, Fifo}
use Rattle.sp_words.specs.Types.{width_of}
use Rattle.sp_bank.specs.Banking.{Banking}
use Rattle.sp_bank.specs.Places.{bank_length}
use Rattle.sp_netlist.specs.Cells.{PlainCell}
use Rattle.sp_netlist.specs.Draft.{Draft}
use Rattle.sp_core.specs.Declarations.{mem, kind_of, dims, depth}
use Rattle.sp_core.specs.PlainCore.{PlainCore}
use Rattle.sp_places.specs.declared.layout.Layout.{Layout}
use Rattle.sp_places.specs.Layouts.{IsLayout}
use Rattle.sp_plan.specs.PlainPlan.{PlainPlan, mem_plan}
use Rattle.sp_plan.specs.Ports.{scheme_at}
use Rattle.sp_plan.specs.Validity.{schemes_of}
use Rattle.sp_bank_words.specs.Layouts.{banking_for, IsLayoutOf}
use Rattle.sp_taps.specs.declared.store.Store.{Store}
use Rattle.sp_taps.specs.Wires.{AreInRows, AreWires, wires_of}
use Rattle.sp_taps.specs.Stores.{AreStores, bank_cells}
use Rattle.sp_memory_nets.specs.declared.array_array.Array.{Array}

-- what a plan gives: some copies of each memory, and of an SRAM a layout that can be emitted and some duplicates
pub record HasArrayPlan (core : PlainCore) (plan : PlainPlan) : Type 0 where
  pub memories : length plan.mems ≡ length core.mems
  pub layouts : (m : ℕ) → m < length core.mems → kind_of core m ≡ Sram → (l : Layout) → IsLayoutOf core plan m l → IsLayout l
  pub copies : (m : ℕ) → m < length core.mems → 1 ≤ (mem_plan plan m).depth
  pub duplicates : (m : ℕ) → m < length core.mems → kind_of core m ≡ Sram → 1 ≤ (mem_plan plan m).duplicates

-- SRAMs have banks by their layouts, and FIFOs one for each copy, as long as they are deep
abbrev pub banks_of_kind : Kind → (banks copies : ℕ) → ℕ
banks_of_kind Sram n k = n
banks_of_kind Fifo n k = k
banks_of_kind kind n k = 0

abbrev pub size_of_kind : Kind → (size deep : ℕ) → ℕ
size_of_kind Fifo n k = k
size_of_kind kind n k = n

module _ (core : PlainCore) (plan : PlainPlan) where
  abbrev pub array_banking : (mem : ℕ) → Banking
  array_banking m = banking_for (scheme_at (schemes_of plan) (Some m)) (length (dims core m))

  -- so many banks has a memory in all its copies and duplicates, and so many words has each of them
  abbrev pub array_banks : (mem : ℕ) → ℕ
  array_banks m = banks_of_kind (kind_of core m) ((mem_plan plan m).duplicates * ((mem_plan plan m).depth * (array_banking m).banks)) (mem_plan plan m).depth

  abbrev pub array_size : (mem : ℕ) → ℕ
  array_size m = size_of_kind (kind_of core m) (bank_length (array_banking m) (dims core m)) (depth core m)

  -- those of the memories before one
  abbrev pub banks_before : (mem : ℕ) → ℕ
  banks_before zero = 0
  banks_before (suc m) = banks_before m + array_banks m

  -- their cells, from a number of a bank on
  abbrev pub array_cells : (first mem : ℕ) → List PlainCell
  array_cells first zero = []
  array_cells first (suc m) = array_cells first m ++ bank_cells (first + banks_before m) (width_of (mem core m).ty) (array_size m) (array_banks m)

-- the first bank of a memory, and its ports
abbrev pub bank_at : List Array → (mem : ℕ) → ℕ
bank_at arrays m = slice_index (map (λ (a : Array). a.bank) arrays) m

abbrev pub stores_at : List Array → (mem : ℕ) → List Store
stores_at arrays m = slice_index_or (map (λ (a : Array). a.stores.items) arrays) m []

-- the nets of ports that are to be driven: of a memory, and of all
abbrev pub wires_at : List Array → (mem : ℕ) → List ℕ
wires_at arrays m = flat_map wires_of (stores_at arrays m)

abbrev pub stores_in : List Array → List Store
stores_in arrays = flat_map (λ (a : Array). a.stores.items) arrays

abbrev pub wires_in : List Array → List ℕ
wires_in arrays = flat_map wires_of (stores_in arrays)

-- the banks of a memory were added, and the nets of their ports are to be driven; each bank is one on whose ports no two enabled taps stand
pub record ArrayStands (d : Draft) (core : PlainCore) (plan : PlainPlan) (m bank : ℕ) (stores : List Store) : Type 0 where
  pub few : array_banks core plan m < 2 ^ 32
  pub numbers : bank + array_banks core plan m < 2 ^ 64
  pub each : length stores ≡ array_banks core plan m
  pub rows : (first : ℕ) × AreInRows first stores
  pub wires : All (AreWires d (width_of (mem core m).ty)) stores
  pub banks : AreStores d bank (width_of (mem core m).ty) (array_size core plan m) stores

-- so are those of each memory, by its number; and no two memories have a net in common
pub record ArraysStand (d : Draft) (core : PlainCore) (plan : PlainPlan) (arrays : List Array) : Type 0 where
  pub each : length arrays ≡ length core.mems
  pub stand : (m : ℕ) → m < length core.mems → ArrayStands d core plan m (bank_at arrays m) (stores_at arrays m)
  pub apart : (i k net : ℕ) → i < k → k < length core.mems → Contains (wires_at arrays i) net → Contains (wires_at arrays k) net → ⊥

-- the banks of each memory begin behind those of the memories before it
abbrev pub AreNumbered : PlainCore → PlainPlan → (first : ℕ) → List Array → Type 0
AreNumbered core plan first arrays = (m : ℕ) → m < length core.mems → bank_at arrays m ≡ first + banks_before core plan m
