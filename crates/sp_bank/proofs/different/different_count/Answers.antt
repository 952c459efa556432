use Rattle.std.proofs.Common.{arith}
use Rattle.sp_bank.proofs.Pigeons.{most_listed}
use Rattle.sp_bank.proofs.different.different_count.Goals as goal

pub returns-clause-most : goal.returns-clause-most
returns-clause-most c us differ few =
    let found = c.different.ensures in
    let all = found.all (omega (arith, few, c.len-2.ensures.value)) in
    omega (arith, most_listed c.args.rank c.args.group.now c.different.result.items us all differ, c.len-2.ensures.value)
