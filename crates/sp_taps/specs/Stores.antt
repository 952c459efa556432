-- What banks with their ports do over time.
use Rattle.std.specs.Prelude.{◌≡◌, ℕ, zero, suc, ◌+◌, ◌<◌, ◌≤◌, ◌&&◌, ◌==◌, Bool, true, false, not, if◌then◌else◌, List, [], ◌∷◌, ◌++◌, length, slice_index_or, count_by}
use Rattle.sp_netlist.specs.declared.cell.Port.{Port}
use Rattle.sp_netlist.specs.Cells.{PlainCell, bank_cell, read_tap, write_tap}
use Rattle.sp_netlist.specs.Cycle.{is_enabled_tap}
use Rattle.sp_netlist.specs.Signals.{Signals, Holds}
use Rattle.sp_netlist.specs.Draft.{Draft}
use Rattle.sp_netlist.specs.Parts.{NoCell}
use Rattle.sp_gates.specs.Nets.{HasNet}
use Rattle.sp_gates.specs.Runs.{RunsOn}
use Rattle.sp_gates.specs.Tested.{is_on}
use Rattle.sp_taps.specs.declared.store.Store.{Store}

-- a bank is 0 in the beginning; from each cycle to the next a word changes where it is written, and the word that is read
-- stands in the next cycle
pub record RunsStore (s : Signals) (bank len : ℕ) (store : Store) : Type 0 where
  pub begins : (place : ℕ) → s.bank 0 bank place ≡ 0
  pub goes : (t place : ℕ) → place < len → s.bank (suc t) bank place ≡ (if is_on s store.write t && (s.net t store.write_at == place) then s.net t store.word else s.bank t bank place)
  pub finds : Holds (λ t. s.net t store.found) 0 (λ t. s.net t store.read) (λ t. s.bank t bank (s.net t store.read_at))

-- no two enabled taps stand on a port of the bank, in any cycle of any run
abbrev pub HasNoConflict : Draft → (bank : ℕ) → Type 0
HasNoConflict d bank = (s : Signals) (run : RunsOn s d.cells) (t : ℕ) (port : Port) → count_by (is_enabled_tap (s.net t) port bank) run.setting.cells ≤ 1

pub record IsStore (d : Draft) (bank width len : ℕ) (store : Store) : Type 0 where
  pub found : HasNet d store.found width
  pub runs : (s : Signals) → RunsOn s d.cells → RunsStore s bank len store
  pub no_conflict : HasNoConflict d bank

-- so many banks, from a number on
abbrev pub bank_cells : (first width len count : ℕ) → List PlainCell
bank_cells first width len zero = []
bank_cells first width len (suc n) = bank_cells first width len n ++ bank_cell (first + n) width len ∷ []

-- a bank, or a tap on one
abbrev pub is_bank_part : PlainCell → Bool
is_bank_part (bank_cell bank width len) = true
is_bank_part (read_tap net bank enable addr) = true
is_bank_part (write_tap bank enable addr word) = true
is_bank_part cell = false

abbrev pub is_no_bank_part : PlainCell → Bool
is_no_bank_part cell = not (is_bank_part cell)

-- cells were added at the end, all of which are banks and their taps
pub record AddsBanks (old new : Draft) : Type 0 where
  pub added : List PlainCell
  pub stands : new.cells ≡ old.cells ++ added
  pub all : NoCell is_no_bank_part added

-- each of a row of banks, from a number on
abbrev pub AreStores : Draft → (first width len : ℕ) → List Store → Type 0
AreStores d first width len stores = (i : ℕ) (other : Store) → i < length stores → IsStore d (first + i) width len (slice_index_or stores i other)
