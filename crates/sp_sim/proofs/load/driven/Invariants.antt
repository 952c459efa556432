use Rattle.std.proofs.Common.{◌≡◌, ℕ, List, take, map, flat_map}
use Rattle.sp_netlist.specs.Cells.{PlainCell, plain_cells}
use Rattle.sp_netlist.specs.Rules.{drives}
use Rattle.sp_sim.proofs.load.driven.Given as goal

abbrev pub invariant-loop-cell : goal.invariant-loop-cell
invariant-loop-cell l = (cells : List PlainCell) → l.nets.items ≡ map (λ (p : ℕ × ℕ). p.0) (flat_map (drives cells) (plain_cells (take l.cell-index l.cells)))
