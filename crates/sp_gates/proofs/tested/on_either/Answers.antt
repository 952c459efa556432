use Rattle.std.proofs.Common.{◌==◌, ap, ◌∙◌}
use Rattle.sp_gates.proofs.OnLemmas.{either_on}
use Rattle.sp_gates.proofs.tested.on_either.Goals as goal

pub returns-clause-on : goal.returns-clause-on
returns-clause-on c = λ s run t. ap (λ n. n == 1) (c.in_ok-net.ensures.word s run t) ∙ either_on (s.net t c.args.a) (s.net t c.args.b)
