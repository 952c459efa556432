use Rattle.std.proofs.Common.{◌≡◌, take}
use Rattle.std.specs.List.{fold}
use Rattle.sp_netlist.specs.Cells.{plain_cells}
use Rattle.sp_sim.specs.Rows.{word_of}
use Rattle.sp_sim.specs.Memories.{word_at}
use Rattle.sp_sim.specs.Phases.{phase_at}
use Rattle.sp_sim.specs.Holding.{held, put_all}
use Rattle.sp_sim.proofs.hold.hold.Given as goal

abbrev pub invariant-loop-cell : goal.invariant-loop-cell
invariant-loop-cell l = l.next ≡ fold (λ r x. put_all r (held (word_of l.row) (word_at l.banks) (word_at l.drams) (phase_at l.phases) x)) l.initial.next (plain_cells (take l.cell-index l.cells))
