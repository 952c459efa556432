-- What the functions of the check know of each other: tables of widths by number, lists of nets with their
-- widths, and the least net so far.
use Rattle.std.specs.Prelude.{◌≡◌, ◌≢◌, ℕ, ◌≤◌, ◌<◌, List, [], ◌∷◌, length, map, slice_index, min, Bool, false, not, ◌==◌, count_by, Option, Some, None, Contains, if◌then◌else◌, ◌++◌}
use Rattle.sp_words.specs.Types.{width_of}
use Rattle.sp_netlist.specs.declared.parts.Wire.{Wire}
use Rattle.sp_netlist.specs.Cells.{PlainCell, bank_cell, read_tap, write_tap, dram_cell, load_unit, store_unit}
use Rattle.sp_netlist.specs.Rules.{IsRight, is_bank, is_dram, bank_width, dram_width}
use Rattle.sp_netlist.specs.Draft.{net_count}
use Rattle.sp_netlist.specs.Refusals.{IsLeast, OfNone}

-- each cell of the list stands rightly in it, after those before it
pub record AllRight (cells : List PlainCell) : Type 0 where
  pub each : (before : List PlainCell) (cell : PlainCell) (after : List PlainCell) → cells ≡ before ++ cell ∷ after → IsRight cells before cell

-- the widths of the banks and of the DRAMs in order
abbrev pub bank_width_in : PlainCell → Option ℕ
bank_width_in (bank_cell bank width len) = Some width
bank_width_in cell = None

abbrev pub dram_width_in : PlainCell → Option ℕ
dram_width_in (dram_cell dram name ty dims) = Some (width_of ty)
dram_width_in cell = None

-- two lists have the width of each bank and of each DRAM at its number
pub record AreWidths (cells : List PlainCell) (banks drams : List ℕ) : Type 0 where
  pub bank_within : (bank : ℕ) → bank < count_by is_bank cells → bank < length banks
  pub bank_at : (bank : ℕ) → bank < count_by is_bank cells → slice_index banks bank ≡ bank_width cells bank
  pub dram_within : (dram : ℕ) → dram < count_by is_dram cells → dram < length drams
  pub dram_at : (dram : ℕ) → dram < count_by is_dram cells → slice_index drams dram ≡ dram_width cells dram

-- the bank or the DRAM that the cell names stands
abbrev pub NamesStanding : List PlainCell → PlainCell → Type 0
NamesStanding cells (read_tap net bank enable addr) = bank < count_by is_bank cells
NamesStanding cells (write_tap bank enable addr word) = bank < count_by is_bank cells
NamesStanding cells (load_unit channel dram ready net request last addr) = dram < count_by is_dram cells
NamesStanding cells (store_unit channel dram ready request last addr word) = dram < count_by is_dram cells
NamesStanding cells cell = Unit {0}

-- nets with their widths
abbrev pub wire_pairs : List Wire → List (ℕ × ℕ)
wire_pairs = map (λ w. (w.net, w.width))

-- nothing where the fact holds of no number, and else the least of which it holds
abbrev pub IsLeastOrNone : (ℕ → Type 0) → Option ℕ → Type 0
IsLeastOrNone P None = OfNone P
IsLeastOrNone P (Some n) = IsLeast P n

abbrev pub least_with : Option ℕ → ℕ → ℕ
least_with None n = n
least_with (Some b) n = min b n

-- the lesser of two that may be missing
abbrev pub least_of : Option ℕ → Option ℕ → Option ℕ
least_of best None = best
least_of best (Some n) = Some (least_with best n)

-- the width with which a list of nets last has a net
abbrev pub or_else : Option ℕ → Option ℕ → Option ℕ
or_else (Some width) other = Some width
or_else None other = other

abbrev pub latest : List (ℕ × ℕ) → ℕ → Option ℕ
latest [] net = None
latest (p ∷ nets) net = or_else (latest nets net) (if p.0 == net then Some p.1 else None)

-- a net that is read and has no driver, where `given` has the width that each driven net is given
abbrev pub IsMissing : (ℕ → Option ℕ) → List (ℕ × ℕ) → ℕ → Type 0
IsMissing given read net = (1 ≤ net_count read net) × (given net ≡ None)

-- one that is read at another width than it is given
abbrev pub IsClash : (ℕ → Option ℕ) → List (ℕ × ℕ) → ℕ → Type 0
IsClash given read net = (width : ℕ) × (other : ℕ) × (given net ≡ Some width) × Contains read (net, other) × (width ≢ other)

abbrev pub differs_from : Option ℕ → ℕ → Bool
differs_from (Some given) width = not (given == width)
differs_from None width = false
