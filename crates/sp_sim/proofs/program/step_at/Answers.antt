use Rattle.std.proofs.Common.{◌∙◌, sym, ap, arith}
use Rattle.std.proofs.lemmas.List.{get_or-map}
use Rattle.sp_netlist.specs.Cells.{plain_cell, done_cell}
use Rattle.sp_sim.specs.Settling.{cell_at}
use Rattle.sp_sim.proofs.CellLemmas.{length_plain}
use Rattle.sp_sim.proofs.program.step_at.Goals as goal

pub returns : goal.returns
unfolding cell_at
returns c = c.step_of.ensures ∙ ap plain_cell c.index-cells-at.is ∙ sym (get_or-map plain_cell c.args.cells.now c.args.at c.index-cells-at.result (done_cell 0) (omega (arith, length_plain c.args.cells.now, c.requires.0)))
