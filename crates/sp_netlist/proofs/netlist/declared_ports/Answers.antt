use Rattle.sp_netlist.proofs.PortLemmas.{ports_of-more}
use Rattle.sp_netlist.proofs.netlist.declared_ports.Goals as goal

pub loop-cell-preserved : goal.loop-cell-preserved
loop-cell-preserved c =
    ports_of-more c.args.cells.now c.loop-cell.cell-index c.cell-item.result _ _ c.loop-cell-test.true c.cell-item.is c.loop-cell.invariant
    c.in_ok-add_port.ensures.args c.in_ok-add_port.ensures.outs c.in_ok-add_port.ensures.drams
