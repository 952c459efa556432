-- What enabled write taps do to banks, and what stores do to DRAMs.
use Rattle.std.specs.Prelude.{ℕ, ◌<◌, ◌^◌, ◌==◌, if◌then◌else◌, List}
use Rattle.sp_netlist.specs.Cells.{PlainCell, write_tap, store_unit}
use Rattle.sp_sim.specs.Memories.{Words, width_at, written}

abbrev pub bank_write : (ℕ → ℕ) → List Words → PlainCell → List Words
bank_write w banks (write_tap bank enable addr word) = if w enable == 1 then written banks bank (w addr) (w word) else banks
bank_write w banks cell = banks

abbrev pub dram_write : (ℕ → ℕ) → List Words → PlainCell → List Words
dram_write w drams (store_unit channel dram ready request last addr word) = if w ready == 1 then written drams dram (w addr) (w word) else drams
dram_write w drams cell = drams

-- the words that a cell may write have the width of its bank
abbrev pub BankWordFits : (ℕ → ℕ) → List Words → PlainCell → Type 0
BankWordFits w banks (write_tap bank enable addr word) = w word < 2 ^ width_at banks bank
BankWordFits w banks cell = Unit {0}

abbrev pub DramWordFits : (ℕ → ℕ) → List Words → PlainCell → Type 0
DramWordFits w drams (store_unit channel dram ready request last addr word) = w word < 2 ^ width_at drams dram
DramWordFits w drams cell = Unit {0}
