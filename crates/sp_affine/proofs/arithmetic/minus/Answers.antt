use Rattle.std.proofs.Common.{arith, rules}
use Rattle.std.proofs.lemmas.Grind.{common_steps}
use Rattle.sp_affine.proofs.Values.{value_of-difference}
use Rattle.sp_affine.proofs.arithmetic.minus.Goals as goal

pub returns-clause-form : goal.returns-clause-form
returns-clause-form c = first_of (search rules, grind (arith, common_steps))

pub returns-clause-value : goal.returns-clause-value
returns-clause-value c counters symbols = value_of-difference _ c.args.a.now c.args.b.now c.requires (returns-clause-form c) counters symbols
