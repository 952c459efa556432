use Rattle.sp_stages.proofs.FinestChains.{chains_are_finest}
use Rattle.sp_stages.proofs.laws.chains_by_leaders_are_finest.Goals as goal

pub returns : goal.returns
returns c = chains_are_finest
