use Rattle.std.proofs.Common.{◌∙◌, sym, ap, subst, arith}
use Rattle.std.specs.List.{fold}
use Rattle.std.proofs.lemmas.List.Sums.{fold_push}
use Rattle.sp_netlist.specs.Cells.{plain_cell, plain_cells}
use Rattle.std.proofs.Common.{take}
use Rattle.sp_sim.specs.Rows.{word_of}
use Rattle.sp_sim.specs.Memories.{width_at}
use Rattle.sp_sim.specs.Writing.{bank_write, BankWordFits}
use Rattle.sp_sim.proofs.CellLemmas.{plain_more, plain_at, length_plain}
use Rattle.sp_sim.proofs.MemoryLemmas.{bank_word_fits, width_at-bank_write}
use Rattle.sp_sim.proofs.write.write_banks.Goals as goal

pub write_bank-requires : goal.write_bank-requires
write_bank-requires c =
    let w = word_of c.args.row.now in
    let x = plain_cell c.cell-item.result in
    let here = plain_at c.args.cells.now c.loop-cell.cell-index c.cell-item.result x c.loop-cell-test.true c.cell-item.is in
    bank_word_fits w c.loop-cell.banks c.args.banks.now c.loop-cell.invariant.1 x
    (subst (BankWordFits w c.args.banks.now) here (c.requires c.loop-cell.cell-index x (omega (arith, length_plain c.args.cells.now, c.loop-cell-test.true))))

pub loop-cell-preserved : goal.loop-cell-preserved
loop-cell-preserved c =
    let w = word_of c.args.row.now in
    let x = plain_cell c.cell-item.result in
    let more = plain_more c.args.cells.now c.loop-cell.cell-index c.cell-item.result c.loop-cell-test.true c.cell-item.is in (
      c.write_bank.ensures ∙ ap (λ ms. bank_write w ms x) c.loop-cell.invariant.0
          ∙ sym (ap (fold (bank_write w) c.args.banks.now) more ∙ fold_push (bank_write w) c.args.banks.now (plain_cells (take c.loop-cell.cell-index c.args.cells.now)) x),
      λ n. ap (λ ms. width_at ms n) c.write_bank.ensures ∙ width_at-bank_write w c.loop-cell.banks x n ∙ c.loop-cell.invariant.1 n,
    )
