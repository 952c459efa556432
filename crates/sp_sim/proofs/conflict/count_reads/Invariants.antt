use Rattle.std.proofs.Common.{◌≡◌, take}
use Rattle.std.specs.List.{fold}
use Rattle.sp_netlist.specs.declared.cell.Port.TheVariants.{Read}
use Rattle.sp_netlist.specs.Cells.{plain_cells}
use Rattle.sp_sim.specs.Rows.{word_of}
use Rattle.sp_sim.specs.Conflicts.{tally}
use Rattle.sp_sim.proofs.conflict.count_reads.Given as goal

abbrev pub invariant-loop-cell : goal.invariant-loop-cell
invariant-loop-cell l = l.counts ≡ fold (tally (word_of l.row) Read) l.initial.counts (plain_cells (take l.cell-index l.cells))
