use Rattle.sp_transfer_runs.proofs.Stores.{stores_work, stores_do}
use Rattle.sp_transfer_runs.proofs.laws.stores_work.Goals as goal

pub returns-clause-goes : goal.returns-clause-goes
returns-clause-goes c = stores_work c.slices_are_words.ensures

pub returns-clause-runs : goal.returns-clause-runs
returns-clause-runs c = stores_do c.slices_are_words.ensures
