use Rattle.std.proofs.Common.{◌∙◌, ap, sym, ◌++◌, [], ◌∷◌, filter_map}
use Rattle.sp_netlist.specs.Cells.{plain_cell}
use Rattle.sp_netlist.specs.Tables.{bank_width_in}
use Rattle.sp_netlist.proofs.TableLemmas.{filter_more}
use Rattle.sp_netlist.proofs.tables.bank_widths.Goals as goal

pub loop-cell-preserved : goal.loop-cell-preserved
loop-cell-preserved c =
    c.in_ok-push_bank_width.ensures ∙ ap (λ r. r ++ filter_map bank_width_in (plain_cell c.cell-item.result ∷ [])) c.loop-cell.invariant
    ∙ sym (filter_more bank_width_in c.args.cells.now c.loop-cell.cell-index c.cell-item.result c.loop-cell-test.true c.cell-item.is)
