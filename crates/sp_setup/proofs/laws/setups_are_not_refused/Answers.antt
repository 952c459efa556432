use Rattle.sp_setup.proofs.ExclusionLemmas.{gives_or_ends, gives_or_past}
use Rattle.sp_setup.proofs.laws.setups_are_not_refused.Goals as goal

pub returns-clause-refused : goal.returns-clause-refused
returns-clause-refused c = λ told ports bytes plain e held is ends. gives_or_ends told _ _ ports bytes plain e held is ends

pub returns-clause-too_long : goal.returns-clause-too_long
returns-clause-too_long c = λ told ports bytes plain name held is ends. gives_or_past told _ _ ports bytes plain name held is ends
