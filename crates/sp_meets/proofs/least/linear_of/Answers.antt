use Rattle.sp_meets.specs.Steps.{loops_of}
use Rattle.sp_meets.proofs.Distance.{linear_is, one_passes_not}
use Rattle.sp_meets.proofs.Parallel.{most_without}
use Rattle.sp_meets.proofs.least.linear_of.Goals as goal

pub returns-then-is_without : goal.returns-then-is_without
returns-then-is_without c =
    let loops = loops_of c.args.common.now c.args.first.now c.args.second.now in
    linear_is loops c.args.a.now c.args.b.now 1 (c.are_parallel.ensures.0 c.if-not-are_parallel.false)
    (most_without loops c.args.a.now c.args.b.now (c.is_without.ensures c.if-is_without.true)) (λ more. absurd (one_passes_not more))
