use Rattle.std.proofs.Common.{◌==◌, ap}
use Rattle.sp_pipe.proofs.Cycles.{is_later}
use Rattle.sp_gates.specs.Tested.{is_on}
use Rattle.sp_pipe.proofs.issue.later.Goals as goal

pub returns-clause-later : goal.returns-clause-later
returns-clause-later c = λ s r. is_later (is_on s c.in_ok-late.late) (is_on s c.args.net) c.args.cycles
    (λ t. ap (λ n. n == 1) (c.in_ok-late.ensures.later s r t)) (λ t l. ap (λ n. n == 1) (c.in_ok-late.ensures.before s r t l))
