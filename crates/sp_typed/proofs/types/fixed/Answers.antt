use Rattle.sp_types.proofs.LiteralLemmas.{some_fixed}
use Rattle.sp_typed.proofs.types.fixed.Goals as goal

pub returns-in-Some : goal.returns-in-Some
returns-in-Some c = some_fixed c.args.signed c.args.whole c.args.frac c.in-Some.fix c.in-Some.ensures.sign c.in-Some.ensures.whole_bits c.in-Some.ensures.frac_bits
