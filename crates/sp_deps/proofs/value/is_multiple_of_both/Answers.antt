use Rattle.std.proofs.Common.{◌<◌, arith}
use Rattle.sp_deps.proofs.Multiples.{combined, same_multiple}
use Rattle.sp_deps.proofs.value.is_multiple_of_both.Goals as goal

pub returns : goal.returns
returns c =
    let some : 0 < c.args.divisor = omega arith in
    let (q, is_start) = c.remainder-rest.ensures.value in
    let (p, is_step) = c.remainder-step_rest.ensures.value in
    let same = combined c.args.start.now c.args.step.now q p c.args.divisor c.remainder-rest.result c.remainder-step_rest.result c.args.t is_start is_step in
    rw c.from.ensures (same_multiple c.args.divisor _ _ _ some same)
