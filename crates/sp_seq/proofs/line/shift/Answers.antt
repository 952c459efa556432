use Rattle.std.proofs.Common.{◌-◌, arith}
use Rattle.sp_seq.proofs.LineLemmas.{shifted, stored_shift}
use Rattle.sp_seq.proofs.line.shift.Goals as goal

pub returns-clause-rows : goal.returns-clause-rows
returns-clause-rows c =
    shifted c.args.rows.now.items c.rotate_left.new.self.items (c.len-last.result - 1) c.index_mut.result.now c.clear.new.self c.requires c.rotate_left.ensures.items (omega (arith, c.len-last.ensures, c.rotate_left.new.self.ok)) c.index_mut.ensures.value c.clear.ensures.width c.clear.ensures.cells

pub returns-clause-stored : goal.returns-clause-stored
returns-clause-stored c =
    stored_shift c.args.rows.now _ c.requires (shifted c.args.rows.now.items c.rotate_left.new.self.items (c.len-last.result - 1) c.index_mut.result.now c.clear.new.self c.requires c.rotate_left.ensures.items (omega (arith, c.len-last.ensures, c.rotate_left.new.self.ok)) c.index_mut.ensures.value c.clear.ensures.width c.clear.ensures.cells)
