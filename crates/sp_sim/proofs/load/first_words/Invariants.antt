use Rattle.std.proofs.Common.{◌≡◌, take}
use Rattle.std.specs.List.{fold}
use Rattle.sp_netlist.specs.Cells.{plain_cells}
use Rattle.sp_sim.specs.Loading.{First, first_one}
use Rattle.sp_sim.proofs.load.first_words.Given as goal

abbrev pub invariant-loop-cell : goal.invariant-loop-cell
invariant-loop-cell l =
    let now : First = record { row = l.row; seen = l.seen } in
    let first : First = record { row = l.initial.row; seen = 0 } in
    now ≡ fold (first_one l.args) first (plain_cells (take l.cell-index l.cells))
