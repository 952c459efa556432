-- Laws of drafts, for those who build netlists out of parts.
use Rattle.std.specs.Prelude.{◌≡◌, ℕ, ◌≤◌, ◌↔◌, Bool, List, ◌++◌, length, count_by}
use Rattle.sp_netlist.specs.Cells.{PlainCell}
use Rattle.sp_netlist.specs.Rules.{is_bank, is_dram, is_unit}
use Rattle.sp_netlist.specs.Draft.{Draft, IsDraft, Keeps, driver_count}
use Rattle.sp_netlist.specs.Parts.{NoCell, names_bank, names_dram, stands_for_channel}

pub record DraftLaws : Type 0 where
  -- the cells of a draft name no bank, DRAM or channel past those that it has
  pub bank : (d : Draft) (bank : ℕ) → IsDraft d → count_by is_bank d.cells ≤ bank → NoCell (names_bank bank) d.cells
  pub dram : (d : Draft) (dram : ℕ) → IsDraft d → count_by is_dram d.cells ≤ dram → NoCell (names_dram dram) d.cells
  pub channel : (d : Draft) (channel : ℕ) → IsDraft d → count_by is_unit d.cells ≤ channel → NoCell (stands_for_channel channel) d.cells
  -- they drive no net that wasn't promised
  pub net : (d : Draft) (net : ℕ) → IsDraft d → length d.promised ≤ net → driver_count d.cells net ≡ 0
  -- no cell of two lists, one after the other, is so exactly where none of either is
  pub joined : (test : PlainCell → Bool) (front back : List PlainCell) → NoCell test (front ++ back) ↔ (NoCell test front × NoCell test back)
  -- what stands goes on to stand
  pub keeps_all : (d : Draft) → Keeps d d
  pub keeps_on : (first second third : Draft) → Keeps first second → Keeps second third → Keeps first third
