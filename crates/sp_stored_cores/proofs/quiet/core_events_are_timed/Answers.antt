use Rattle.sp_stored_cores.proofs.Early.{are_timed}
use Rattle.sp_stored_cores.proofs.quiet.core_events_are_timed.Goals as goal

pub returns : goal.returns
returns c core plan delays h = are_timed core plan delays h
