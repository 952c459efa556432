use Rattle.std.proofs.Common.{arith, ◌∙◌}
use Rattle.sp_gates.proofs.Words.{not_bit}
use Rattle.sp_gates.proofs.bits.negate.Goals as goal

pub returns-clause-word : goal.returns-clause-word
returns-clause-word c = λ s run t. c.in_ok-net.ensures.word s run t ∙ not_bit (s.net t c.args.a)

pub returns-clause-bit : goal.returns-clause-bit
returns-clause-bit c = record {
  net_stands = c.in_ok-net.ensures.net;
  is_bit = λ s run t. let is = c.in_ok-net.ensures.word s run t ∙ not_bit (s.net t c.args.a) in omega (arith, is);
}
