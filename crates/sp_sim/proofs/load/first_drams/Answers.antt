use Rattle.std.specs.Global.{Vec}
use Rattle.std.proofs.Common.{ℕ, map, subst, arith}
use Rattle.sp_netlist.specs.Cells.{plain_cell}
use Rattle.sp_sim.specs.Loading.{HasContents}
use Rattle.sp_sim.proofs.CellLemmas.{plain_at, length_plain}
use Rattle.sp_sim.proofs.load.first_drams.Goals as goal

pub push_dram-requires : goal.push_dram-requires
push_dram-requires c =
    let x = plain_cell c.cell-item.result in
    subst (HasContents (map (λ (v : Vec ℕ). v.items) c.args.contents.now)) (plain_at c.args.cells.now c.loop-cell.cell-index c.cell-item.result x c.loop-cell-test.true c.cell-item.is)
    (c.requires c.loop-cell.cell-index x (omega (arith, length_plain c.args.cells.now, c.loop-cell-test.true)))
