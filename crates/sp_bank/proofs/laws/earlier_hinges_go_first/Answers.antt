use Rattle.sp_bank.proofs.HingeLemmas.{earlier, earlier-only}
use Rattle.sp_bank.proofs.laws.earlier_hinges_go_first.Goals as goal

pub returns-clause-every : goal.returns-clause-every
returns-clause-every c = earlier

pub returns-clause-only : goal.returns-clause-only
returns-clause-only c = earlier-only
