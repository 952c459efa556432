use Rattle.std.proofs.Common.{arith}
use Rattle.sp_meets.proofs.PairLemmas.{same_common}
use Rattle.sp_meets.proofs.pairs.have_same_loops.Goals as goal

pub returns : goal.returns
returns c = λ h.
    let p = c.args.p.now in
    let q = c.args.q.now in
    same_common p.loops.items q.loops.items c.common_loops-first.result.now c.common_loops-second.result.now p.common q.common
    c.common_loops-first.ensures c.common_loops-second.ensures (omega arith) c.requires.p.common c.requires.q.common (c.are_same_loops.ensures.0 h)
