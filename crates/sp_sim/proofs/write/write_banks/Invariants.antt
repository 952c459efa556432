use Rattle.std.proofs.Common.{◌≡◌, ℕ, take}
use Rattle.std.specs.List.{fold}
use Rattle.sp_netlist.specs.Cells.{plain_cells}
use Rattle.sp_sim.specs.Rows.{word_of}
use Rattle.sp_sim.specs.Memories.{width_at}
use Rattle.sp_sim.specs.Writing.{bank_write}
use Rattle.sp_sim.proofs.write.write_banks.Given as goal

abbrev pub invariant-loop-cell : goal.invariant-loop-cell
invariant-loop-cell l = (l.banks ≡ fold (bank_write (word_of l.row)) l.initial.banks (plain_cells (take l.cell-index l.cells))) × ((n : ℕ) → width_at l.banks n ≡ width_at l.initial.banks n)
