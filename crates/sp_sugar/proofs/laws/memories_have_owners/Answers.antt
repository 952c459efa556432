use Rattle.sp_sugar.proofs.laws.memories_have_owners.Goals as goal
use Rattle.sp_sugar.proofs.Owners.{one_owner}

pub returns : goal.returns
returns c p h = one_owner p h
