use Rattle.std.proofs.Common.{◌-◌, arith}
use Rattle.sp_seq.proofs.LineLemmas.{stored_write, written}
use Rattle.sp_seq.proofs.line.write_newest.Goals as goal

pub returns-clause-rows : goal.returns-clause-rows
returns-clause-rows c =
    let a = c.args in
    written a.rows.now.items (c.len-last.result - 1) c.index_mut.result.now c.set.new.self a.column a.word c.requires.some (omega (arith, c.len-last.ensures, a.rows.now.ok)) c.index_mut.ensures.value c.set.ensures.width c.set.ensures.cells

pub returns-clause-stored : goal.returns-clause-stored
returns-clause-stored c =
    let a = c.args in
    stored_write a.rows.now _ a.column a.word c.requires.some
    (written a.rows.now.items (c.len-last.result - 1) c.index_mut.result.now c.set.new.self a.column a.word c.requires.some (omega (arith, c.len-last.ensures, a.rows.now.ok)) c.index_mut.ensures.value c.set.ensures.width c.set.ensures.cells)
