-- Nets that are promised with a bank, and driven later.
use Rattle.std.specs.Prelude.{◌≡◌, ℕ, ◌+◌, ◌*◌, ◌≤◌, ◌<◌, false, List, [], ◌∷◌, length, Contains, Some, slice_get, slice_index_or}
use Rattle.sp_netlist.specs.Draft.{Draft, driver_count}
use Rattle.sp_gates.specs.Nets.{IsOpen}
use Rattle.sp_gates.specs.Grows.{Grows}
use Rattle.sp_taps.specs.declared.store.Store.{Store}

-- the net was promised as one that is computed, and no cell drives it yet
pub record IsWire (d : Draft) (net width : ℕ) : Type 0 where
  pub promised : slice_get d.promised net ≡ Some (width, false)
  pub undriven : driver_count d.cells net ≡ 0

-- Cells were added, and these nets promised: of the nets that are open, these alone weren't open before.
pub record Promises (old new : Draft) (nets : List ℕ) : Type 0 where
  pub grows : Grows old new
  pub longer : length old.promised ≤ length new.promised
  pub fresh : (net : ℕ) → Contains nets net → length old.promised ≤ net
  pub still_open : (net : ℕ) → IsOpen old net → IsOpen new net
  pub no_other : (net : ℕ) → IsOpen new net → (Contains nets net → ⊥) → IsOpen old net

-- the nets of a bank's ports that are to be driven
abbrev pub wires_of : Store → List ℕ
wires_of store = store.write ∷ store.write_at ∷ store.word ∷ store.read ∷ store.read_at ∷ []

-- the nets of a bank have six numbers in a row
pub record AreInRow (first : ℕ) (store : Store) : Type 0 where
  pub write : store.write ≡ first
  pub write_at : store.write_at ≡ first + 1
  pub word : store.word ≡ first + 2
  pub read : store.read ≡ first + 3
  pub read_at : store.read_at ≡ first + 4
  pub found : store.found ≡ first + 5

-- all of them are to be driven
pub record AreWires (d : Draft) (width : ℕ) (store : Store) : Type 0 where
  pub write : IsWire d store.write 1
  pub write_at : IsWire d store.write_at 32
  pub word : IsWire d store.word width
  pub read : IsWire d store.read 1
  pub read_at : IsWire d store.read_at 32

-- the nets of a row of banks have their numbers one bank after the other
abbrev pub AreInRows : (first : ℕ) → List Store → Type 0
AreInRows first stores = (i : ℕ) (other : Store) → i < length stores → AreInRow (first + 6 * i) (slice_index_or stores i other)
