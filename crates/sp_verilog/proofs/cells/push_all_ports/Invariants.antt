use Rattle.std.proofs.Common.{◌≡◌, ◌++◌, take, flat_map, string_bytes}
use Rattle.sp_netlist.specs.Cells.{plain_cells}
use Rattle.sp_verilog.specs.Text.{ports_text, cell_ports}
use Rattle.sp_verilog.proofs.cells.push_all_ports.Given as goal

abbrev pub invariant-loop-cell : goal.invariant-loop-cell
invariant-loop-cell l =
    string_bytes l.text ≡ string_bytes l.initial.text ++ flat_map (λ c. ports_text (cell_ports l.memories.banks.items l.memories.drams.items c)) (plain_cells (take l.cell-index l.cells))
