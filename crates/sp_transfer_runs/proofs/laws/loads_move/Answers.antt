use Rattle.sp_transfer_runs.proofs.Moving.{loads_move}
use Rattle.sp_transfer_runs.proofs.laws.loads_move.Goals as goal

pub returns : goal.returns
returns c core plan delays = loads_move core plan delays (c.loads_work.ensures.goes core plan delays) (c.channels_answer.ensures core plan delays)
