use Rattle.std.proofs.Common.{◌∙◌}
use Rattle.sp_pipe.proofs.operators.shifted.Goals as goal

pub returns-clause-word : goal.returns-clause-word
returns-clause-word c = λ s r t. c.in_ok-net.ensures.word s r t ∙ c.side-direction.ensures c.args.ty (s.net t c.args.a) c.args.by
