use Rattle.std.proofs.Common.{arith}
use Rattle.sp_netlist.proofs.CheckLemmas.{dram_words-more}
use Rattle.sp_netlist.proofs.check.capped_dram_words.Goals as goal

pub loop-cell-preserved : goal.loop-cell-preserved
loop-cell-preserved c =
    let before = c.loop-cell.invariant in
    let more = dram_words-more c.args.cells.now c.loop-cell.cell-index c.cell-item.result c.loop-cell-test.true c.cell-item.is in
    let one = c.dram_words_of.ensures in
    let all = c.saturating_add-words.ensures in
    omega (arith, before, more, one, all)
