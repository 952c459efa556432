use Rattle.sp_netlist.proofs.DriverTables.{missing_more, clash_more}
use Rattle.sp_netlist.proofs.nets.read_faults.Goals as goal

pub loop-wire-preserved : goal.loop-wire-preserved
loop-wire-preserved c = record {
  missing = missing_more _ c.args.read.now c.loop-wire.wire-index c.wire-item.result c.loop-wire.missing _ c.width_at-found.result _ c.loop-wire-test.true c.wire-item.is c.loop-wire.invariant.missing c.width_at-found.ensures c.is_absent.ensures c.noted-missing.ensures;
  clash = clash_more _ c.args.read.now c.loop-wire.wire-index c.wire-item.result c.loop-wire.clash _ c.width_at-found.result _ c.loop-wire-test.true c.wire-item.is c.loop-wire.invariant.clash c.width_at-found.ensures c.differs.ensures c.noted-clash.ensures;
}
