use Rattle.sp_stored_cores.proofs.Early.{takes_time}
use Rattle.sp_stored_cores.proofs.quiet.runs_take_time.Goals as goal

pub returns : goal.returns
returns c core plan delays none h done = takes_time core plan delays none h done
