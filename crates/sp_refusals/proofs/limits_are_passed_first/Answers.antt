use Rattle.sp_refusals.proofs.TextRefusals.{passed_first}
use Rattle.sp_refusals.proofs.limits_are_passed_first.Goals as goal

pub returns : goal.returns
returns c = passed_first
