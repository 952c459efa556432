use Rattle.std.proofs.Common.{◌≡◌, ◌++◌, take, flat_map, string_bytes}
use Rattle.sp_netlist.specs.Cells.{plain_cells}
use Rattle.sp_verilog.specs.Text.{bank_text}
use Rattle.sp_verilog.proofs.cells.push_banks.Given as goal

abbrev pub invariant-loop-cell : goal.invariant-loop-cell
invariant-loop-cell l = string_bytes l.text ≡ string_bytes l.initial.text ++ flat_map bank_text (plain_cells (take l.cell-index l.cells))
