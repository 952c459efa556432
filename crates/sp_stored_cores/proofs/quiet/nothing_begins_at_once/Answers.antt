use Rattle.sp_stored_cores.proofs.Early.{none_at_once}
use Rattle.sp_stored_cores.proofs.quiet.nothing_begins_at_once.Goals as goal

pub returns : goal.returns
returns c core plan delays none h done = none_at_once core plan delays none h done
