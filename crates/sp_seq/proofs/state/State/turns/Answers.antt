use Rattle.std.proofs.Common.{refl}
use Rattle.sp_seq.specs.States.{store_of}
use Rattle.sp_seq.proofs.state.State.turns.Goals as goal

pub returns-clause-took : goal.returns-clause-took
unfolding store_of
returns-clause-took c = (c.if-self-turns.false, refl, refl)
