use Rattle.sp_transfer_runs.proofs.MovingStores.{stores_move}
use Rattle.sp_transfer_runs.proofs.laws.stores_move.Goals as goal

pub returns : goal.returns
returns c core plan delays = stores_move core plan delays (c.stores_work.ensures.goes core plan delays) (c.channels_answer.ensures core plan delays)
