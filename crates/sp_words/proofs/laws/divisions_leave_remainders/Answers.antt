use Rattle.sp_words.proofs.LawLemmas.{floors, divides}
use Rattle.sp_words.proofs.laws.divisions_leave_remainders.Goals as goal

pub returns-clause-down : goal.returns-clause-down
returns-clause-down c = floors

pub returns-clause-toward_zero : goal.returns-clause-toward_zero
returns-clause-toward_zero c = divides
