-- Enabled taps, counted by bank.
use Rattle.std.specs.Prelude.{ℕ, ◌+◌, ◌<◌, ◌≤◌, min, ◌==◌, if◌then◌else◌, List, length, slice_index, slice_set}
use Rattle.sp_netlist.specs.declared.cell.Port.{Port}
use Rattle.sp_netlist.specs.declared.cell.Port.TheVariants.{Read, Write}
use Rattle.sp_netlist.specs.Cells.{PlainCell, read_tap, write_tap}

-- one more at a bank, up to 2
abbrev pub bumped : List ℕ → ℕ → List ℕ
bumped counts bank = slice_set counts bank (min 2 (slice_index counts bank + 1))

abbrev pub tally : (ℕ → ℕ) → Port → List ℕ → PlainCell → List ℕ
tally w Read counts (read_tap net of enable addr) = if w enable == 1 then bumped counts of else counts
tally w Write counts (write_tap of enable addr word) = if w enable == 1 then bumped counts of else counts
tally w port counts cell = counts

-- the first bank with more than one, read before write
abbrev pub CountsAt : List ℕ → List ℕ → ℕ → Port → Type 0
CountsAt reads writes bank Read = 1 < slice_index reads bank
CountsAt reads writes bank Write = (slice_index reads bank ≤ 1) × (1 < slice_index writes bank)

pub record IsFirstShared (reads writes : List ℕ) (bank : ℕ) (port : Port) : Type 0 where
  pub below : (b : ℕ) → b < bank → (slice_index reads b ≤ 1) × (slice_index writes b ≤ 1)
  pub here : CountsAt reads writes bank port
  pub within : bank < length reads
