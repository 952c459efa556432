use Rattle.sp_same.proofs.Whole.{begin_alike}
use Rattle.sp_same.proofs.laws.first_stores_agree.Goals as goal

pub returns : goal.returns
returns c p h = begin_alike p h
