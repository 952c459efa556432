use Rattle.std.proofs.Common.{◌≡◌, ◌-◌, ◌^◌, min, take}
use Rattle.sp_netlist.specs.Cells.{plain_cells}
use Rattle.sp_netlist.specs.Refusals.{dram_words}
use Rattle.sp_netlist.proofs.check.capped_dram_words.Given as goal

abbrev pub invariant-loop-cell : goal.invariant-loop-cell
invariant-loop-cell l = l.words ≡ min (dram_words (plain_cells (take l.cell-index l.cells))) (2 ^ 64 - 1)
