use Rattle.sp_netlist.specs.Cells.{plain_cells}
use Rattle.std.proofs.lemmas.Result.{err_from_is_err_and}
use Rattle.sp_listing.proofs.RefusalLemmas.{lines_refused, cells_refused}
use Rattle.sp_listing.proofs.reader.read.Goals as goal

pub returns-in_err-cells-clause-refused : goal.returns-in_err-cells-clause-refused
returns-in_err-cells-clause-refused c =
    let p = err_from_is_err_and c.from_residual.result c.from_residual.ensures.1 in
    rw (p.1, p.2) (lines_refused c.args.bytes.now _ c.in_err-cells.ensures)

pub returns-in_err-netlist-clause-refused : goal.returns-in_err-netlist-clause-refused
returns-in_err-netlist-clause-refused c =
    let p = err_from_is_err_and c.from_residual-in_err-netlist.result c.from_residual-in_err-netlist.ensures.1 in
    rw p.1 (cells_refused c.args.bytes.now (plain_cells c.in_ok-cells.cells.items) _ p.0 c.in_ok-cells.ensures c.in_err-netlist.ensures.refused p.2)
