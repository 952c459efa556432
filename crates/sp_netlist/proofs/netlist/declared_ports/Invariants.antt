use Rattle.std.proofs.Common.{◌≡◌, take}
use Rattle.sp_netlist.specs.Cells.{plain_cells}
use Rattle.sp_words.specs.Ports.{plain_ports}
use Rattle.sp_netlist.specs.Ports.{ports_of}
use Rattle.sp_netlist.proofs.netlist.declared_ports.Given as goal

abbrev pub invariant-loop-cell : goal.invariant-loop-cell
invariant-loop-cell l = plain_ports l.ports ≡ ports_of (plain_cells (take l.cell-index l.cells))
