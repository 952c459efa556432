use Rattle.std.proofs.Common.{subst, arith}
use Rattle.sp_netlist.specs.Cells.{plain_cell}
use Rattle.sp_sim.specs.Loading.{HasWidth}
use Rattle.sp_sim.proofs.CellLemmas.{plain_at, length_plain}
use Rattle.sp_sim.proofs.load.first_banks.Goals as goal

pub push_bank-requires : goal.push_bank-requires
push_bank-requires c =
    let x = plain_cell c.cell-item.result in
    subst (HasWidth) (plain_at c.args.cells.now c.loop-cell.cell-index c.cell-item.result x c.loop-cell-test.true c.cell-item.is)
    (c.requires c.loop-cell.cell-index x (omega (arith, length_plain c.args.cells.now, c.loop-cell-test.true)))
