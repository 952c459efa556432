use Rattle.std.proofs.Common.{arith}
use Rattle.sp_seq.proofs.BeginLemmas.{one_cleared}
use Rattle.sp_seq.proofs.memory.clear_rows.Goals as goal

pub loop-row-preserved : goal.loop-row-preserved
loop-row-preserved c =
    let i = c.loop-row.invariant in
    one_cleared c.loop-row.row-items c.args.rows.now.items c.loop-row.row-index c.row-item.result c.clear.new.self i.0 i.1 i.2 (omega arith) c.clear.ensures.width c.clear.ensures.cells
