use Rattle.sp_setup.proofs.ExclusionLemmas.{setup_one}
use Rattle.sp_setup.proofs.laws.setups_are_one.Goals as goal

pub returns : goal.returns
returns c = λ told ports bytes one other held a b. setup_one told ports bytes one other held a b
