use Rattle.sp_netlist.proofs.TableLemmas.{AreWidths-tables}
use Rattle.sp_netlist.proofs.tables.Widths.new.Goals as goal

pub returns-clause-tables : goal.returns-clause-tables
returns-clause-tables c = rw (c.in_ok-banks.ensures, c.in_ok-drams.ensures) (AreWidths-tables _ c.requires)
