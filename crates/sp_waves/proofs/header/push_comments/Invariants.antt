use Rattle.std.proofs.Common.{◌≡◌, ◌++◌, take, flat_map, string_bytes}
use Rattle.sp_netlist.specs.Cells.{plain_cells}
use Rattle.sp_waves.specs.Text.{port_comment}
use Rattle.sp_waves.proofs.header.push_comments.Given as goal

abbrev pub invariant-loop-cell : goal.invariant-loop-cell
invariant-loop-cell l = string_bytes l.text ≡ string_bytes l.initial.text ++ flat_map port_comment (plain_cells (take l.cell-index l.cells))
