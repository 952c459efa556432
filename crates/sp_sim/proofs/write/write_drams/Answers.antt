use Rattle.std.proofs.Common.{◌∙◌, sym, ap, subst, arith}
use Rattle.std.specs.List.{fold}
use Rattle.std.proofs.lemmas.List.Sums.{fold_push}
use Rattle.sp_netlist.specs.Cells.{plain_cell, plain_cells}
use Rattle.std.proofs.Common.{take}
use Rattle.sp_sim.specs.Rows.{word_of}
use Rattle.sp_sim.specs.Memories.{width_at}
use Rattle.sp_sim.specs.Writing.{dram_write, DramWordFits}
use Rattle.sp_sim.proofs.CellLemmas.{plain_more, plain_at, length_plain}
use Rattle.sp_sim.proofs.MemoryLemmas.{dram_word_fits, width_at-dram_write}
use Rattle.sp_sim.proofs.write.write_drams.Goals as goal

pub write_dram-requires : goal.write_dram-requires
write_dram-requires c =
    let w = word_of c.args.row.now in
    let x = plain_cell c.cell-item.result in
    let here = plain_at c.args.cells.now c.loop-cell.cell-index c.cell-item.result x c.loop-cell-test.true c.cell-item.is in
    dram_word_fits w c.loop-cell.drams c.args.drams.now c.loop-cell.invariant.1 x
    (subst (DramWordFits w c.args.drams.now) here (c.requires c.loop-cell.cell-index x (omega (arith, length_plain c.args.cells.now, c.loop-cell-test.true))))

pub loop-cell-preserved : goal.loop-cell-preserved
loop-cell-preserved c =
    let w = word_of c.args.row.now in
    let x = plain_cell c.cell-item.result in
    let more = plain_more c.args.cells.now c.loop-cell.cell-index c.cell-item.result c.loop-cell-test.true c.cell-item.is in (
      c.write_dram.ensures ∙ ap (λ ms. dram_write w ms x) c.loop-cell.invariant.0
          ∙ sym (ap (fold (dram_write w) c.args.drams.now) more ∙ fold_push (dram_write w) c.args.drams.now (plain_cells (take c.loop-cell.cell-index c.args.cells.now)) x),
      λ n. ap (λ ms. width_at ms n) c.write_dram.ensures ∙ width_at-dram_write w c.loop-cell.drams x n ∙ c.loop-cell.invariant.1 n,
    )
