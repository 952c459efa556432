use Rattle.sp_netlist.proofs.TableLemmas.{names_at}
use Rattle.sp_netlist.proofs.tables.Widths.read.Goals as goal

pub push_read-requires-clause-stands : goal.push_read-requires-clause-stands
push_read-requires-clause-stands c = names_at c.args.self.now.cells.now c.loop-cell.cell-index c.cell-item.result c.requires.lines c.loop-cell-test.true c.cell-item.is
