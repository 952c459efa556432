use Rattle.sp_transfer_runs.proofs.Loads.{loads_work, loads_do}
use Rattle.sp_transfer_runs.proofs.laws.loads_work.Goals as goal

pub returns-clause-goes : goal.returns-clause-goes
returns-clause-goes c = loads_work c.slices_are_words.ensures

pub returns-clause-runs : goal.returns-clause-runs
returns-clause-runs c = loads_do c.slices_are_words.ensures
