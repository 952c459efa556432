use Rattle.std.proofs.Common.{◌≡◌, ◌++◌, take, map, flat_map}
use Rattle.sp_netlist.specs.Cells.{plain_cells}
use Rattle.sp_waves.specs.Signals.{plain_signal, port_signals}
use Rattle.sp_waves.proofs.signal.push_all_ports.Given as goal

abbrev pub invariant-loop-cell : goal.invariant-loop-cell
invariant-loop-cell l = map plain_signal l.signals.items ≡ map plain_signal l.initial.signals.items ++ flat_map port_signals (plain_cells (take l.cell-index l.cells))
