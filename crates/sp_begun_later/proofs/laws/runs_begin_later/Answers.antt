use Rattle.sp_begun_later.proofs.Begun.{begun_later}
use Rattle.sp_begun_later.proofs.laws.runs_begin_later.Goals as goal

pub returns : goal.returns
returns c core plan delays = begun_later core plan delays
