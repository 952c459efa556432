use Rattle.sp_compiled_runs.proofs.Chosen.{chosen}
use Rattle.sp_compiled_runs.proofs.laws.plans_as_compiled_are_chosen.Goals as goal

pub returns : goal.returns
returns c = chosen
