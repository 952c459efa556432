use Rattle.sp_netlist.specs.Cells.{plain_cells}
use Rattle.sp_netlist.specs.Refusals.{DrivenNotOnce, WidthsDiffer, IsLooped}
use Rattle.sp_netlist.proofs.Accepting.{none_found, least_found, driven_once, netlist_without_faults}
use Rattle.sp_netlist.proofs.check.find_fault.Goals as goal

pub least_loop-requires : goal.least_loop-requires
least_loop-requires c =
    driven_once (plain_cells c.args.cells.now) (none_found (DrivenNotOnce (plain_cells c.args.cells.now)) c.in_ok-undriven.undriven c.in_default.is c.in_ok-undriven.ensures.driven)

pub returns-in-Some-2-clause-refused : goal.returns-in-Some-2-clause-refused
returns-in-Some-2-clause-refused c = (
  c.requires.within,
  none_found (DrivenNotOnce (plain_cells c.args.cells.now)) c.in_ok-undriven.undriven c.in_default.is c.in_ok-undriven.ensures.driven,
  none_found (WidthsDiffer (plain_cells c.args.cells.now)) c.in_ok-undriven.unequal c.in_default-unequal.is (c.in_ok-undriven.ensures.widths c.in_default.is),
  least_found (IsLooped (plain_cells c.args.cells.now)) c.in_ok-net.field-0 c.in-Some-2.net c.in-Some-2.is c.in_ok-net.ensures.looped,
)

pub returns-clause-netlist : goal.returns-clause-netlist
returns-clause-netlist c =
    netlist_without_faults (plain_cells c.args.cells.now)
    (none_found (DrivenNotOnce (plain_cells c.args.cells.now)) c.in_ok-undriven.undriven c.in_default.is c.in_ok-undriven.ensures.driven)
    c.requires.lines c.in_ok-undriven.ensures.numbers
    (none_found (WidthsDiffer (plain_cells c.args.cells.now)) c.in_ok-undriven.unequal c.in_default-unequal.is (c.in_ok-undriven.ensures.widths c.in_default.is))
    (c.in_ok-net.ensures.ranked c.in_default-2.is)
