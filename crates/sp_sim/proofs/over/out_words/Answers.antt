use Rattle.std.proofs.Common.{◌∙◌, ◌++◌, ◌∷◌, [], sym, ap, take}
use Rattle.sp_netlist.specs.Cells.{plain_cell, plain_cells}
use Rattle.sp_netlist.specs.Cycle as cycle
use Rattle.sp_sim.specs.Rows.{word_of}
use Rattle.sp_sim.proofs.CellLemmas.{plain_more}
use Rattle.sp_sim.proofs.EndLemmas.{out_words_push}
use Rattle.sp_sim.proofs.over.out_words.Goals as goal

pub loop-cell-preserved : goal.loop-cell-preserved
loop-cell-preserved c =
    let w = word_of c.args.row.now in
    let x = plain_cell c.cell-item.result in
    let more = plain_more c.args.cells.now c.loop-cell.cell-index c.cell-item.result c.loop-cell-test.true c.cell-item.is in
    c.in_ok-push_out.ensures ∙ ap (λ ws. ws ++ cycle.out_words (x ∷ []) w) c.loop-cell.invariant
    ∙ sym (ap (λ xs. cycle.out_words xs w) more ∙ out_words_push (plain_cells (take c.loop-cell.cell-index c.args.cells.now)) x w)
