use Rattle.sp_source.proofs.Exclude.{not_refused}
use Rattle.sp_source.proofs.laws.spelled_texts_are_not_refused.Goals as goal

pub returns : goal.returns
returns c = λ text p error spells cause. not_refused text p spells error cause
