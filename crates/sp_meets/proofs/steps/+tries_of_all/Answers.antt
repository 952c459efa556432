use Rattle.sp_meets.specs.Steps.{loops_of}
use Rattle.sp_meets.proofs.Parallel.{joined_whole}
use Rattle.sp_meets.proofs.steps.+tries_of_all.Goals as goal

pub returns : goal.returns
returns t c =
    joined_whole (loops_of c.args.common.now c.args.first.now c.args.second.now) c.args.a.now c.args.b.now c.f-item.result c.g-item.result c.tries_of.result c.tries_of_all-rest.result c.joined.result
    c.in-len1-up.len_at_least c.in-len1-up-b.len_at_least c.f-item.is c.g-item.is c.joined.ensures c.tries_of.ensures c.tries_of_all-rest.ensures
