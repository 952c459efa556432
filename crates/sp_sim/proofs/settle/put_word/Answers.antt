use Rattle.std.proofs.Common.{refl}
use Rattle.sp_sim.proofs.Placed.{settled_there, row_there}
use Rattle.sp_sim.proofs.settle.put_word.Goals as goal

pub returns-clause-settled : goal.returns-clause-settled
returns-clause-settled c =
    let r = c.requires in
    settled_there c.args.netlist.now r.netlist c.args.nets.now c.args.words.now r.ascending r.long r.is_row c.args.task c.args.at r.within r.stands _ _ _ refl refl refl c.args.word r.word

pub returns-clause-is_row : goal.returns-clause-is_row
returns-clause-is_row c =
    let r = c.requires in
    row_there c.args.netlist.now r.netlist c.args.nets.now c.args.words.now r.ascending r.long r.is_row c.args.task c.args.at r.within r.stands _ _ _ refl refl refl c.args.word r.word r.fits
