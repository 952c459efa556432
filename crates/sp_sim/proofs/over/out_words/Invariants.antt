use Rattle.std.proofs.Common.{◌≡◌, take}
use Rattle.sp_netlist.specs.Cells.{plain_cells}
use Rattle.sp_netlist.specs.Cycle as cycle
use Rattle.sp_sim.specs.Rows.{word_of}
use Rattle.sp_sim.proofs.over.out_words.Given as goal

abbrev pub invariant-loop-cell : goal.invariant-loop-cell
invariant-loop-cell l = l.outs.items ≡ cycle.out_words (plain_cells (take l.cell-index l.cells)) (word_of l.row)
