use Rattle.std.proofs.Common.{◌≡◌, take, map}
use Rattle.std.specs.List.{fold}
use Rattle.sp_netlist.specs.Cells.{plain_cells}
use Rattle.sp_sim.specs.Rows.{word_of}
use Rattle.sp_sim.specs.Phases.{plain_phase}
use Rattle.sp_sim.specs.Serving.{Channels, serve_one}
use Rattle.sp_sim.proofs.serve.serve.Given as goal

abbrev pub invariant-loop-cell : goal.invariant-loop-cell
invariant-loop-cell l =
    let now : Channels = record { phases = map plain_phase l.phases; taken = l.taken } in
    let first : Channels = record { phases = map plain_phase l.initial.phases; taken = l.initial.taken } in
    now ≡ fold (serve_one (word_of l.row) l.delays) first (plain_cells (take l.cell-index l.cells))
