use Rattle.std.proofs.Common.{◌≡◌, take, flat_map}
use Rattle.sp_netlist.specs.Cells.{plain_cells}
use Rattle.sp_netlist.specs.Rules.{drives}
use Rattle.sp_netlist.specs.Tables.{wire_pairs}
use Rattle.sp_netlist.proofs.tables.Widths.driven.Given as goal

abbrev pub invariant-loop-cell : goal.invariant-loop-cell
invariant-loop-cell l = wire_pairs l.wires.items ≡ flat_map (drives (plain_cells l.fn.self.cells.now)) (plain_cells (take l.cell-index l.cells))
