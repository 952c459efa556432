use Rattle.std.proofs.Common.{◌<◌, sum, arith}
use Rattle.sp_modulo.proofs.Rising.{sum-within}
use Rattle.sp_modulo.proofs.least.settle.Goals as goal

pub loop-smaller : goal.loop-smaller
loop-smaller c =
    let up : sum c.loop.times < sum c.raise_all.new.times = c.raise_all.ensures.raised c.in-Raised.is in
    let top = sum-within c.raise_all.new.times c.args.limits.now (omega arith) (c.raise_all.ensures.within c.loop.invariant.within) in
    omega arith

pub returns-in-Late-clause-late : goal.returns-in-Late-clause-late
returns-in-Late-clause-late c = λ _ others obey below within. c.raise_all.ensures.late c.in-Late.is others obey (c.loop.invariant.under others obey below) within
