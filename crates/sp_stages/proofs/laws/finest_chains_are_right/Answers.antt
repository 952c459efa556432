use Rattle.sp_stages.proofs.laws.finest_chains_are_right.Goals as goal

pub returns : goal.returns
returns c = λ core meets counters style owned runs slots chains h. h.may_be.right
