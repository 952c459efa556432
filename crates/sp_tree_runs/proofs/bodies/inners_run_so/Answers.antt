use Rattle.sp_tree_runs.proofs.BodiesFinding.{scopes_are_found, inners_run_so}
use Rattle.sp_tree_runs.proofs.bodies.inners_run_so.Goals as goal

pub returns-clause-found : goal.returns-clause-found
returns-clause-found c core plan delays = scopes_are_found core plan delays

pub returns-clause-runs : goal.returns-clause-runs
returns-clause-runs c core plan delays = inners_run_so core plan delays
