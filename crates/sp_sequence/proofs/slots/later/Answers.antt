use Rattle.std.proofs.Common.{◌==◌, ap}
use Rattle.sp_gates.specs.Tested.{is_on}
use Rattle.sp_sequence.proofs.Cycles.{once_after}
use Rattle.sp_sequence.proofs.slots.later.Goals as goal

pub returns-clause-after : goal.returns-clause-after
returns-clause-after c = λ s r. once_after (is_on s c.in_ok-late.late) (is_on s c.args.net) (λ t. ap (λ n. n == 1) (c.in_ok-late.ensures.later s r t)) (λ t l. ap (λ n. n == 1) (c.in_ok-late.ensures.before s r t l))
