use Rattle.sp_types.proofs.GrowthLemmas.{left, back_declared}
use Rattle.sp_types.proofs.controller.check_under.Goals as goal

pub returns-clause-seen : goal.returns-clause-seen
returns-clause-seen c = left _ _ _ _ _ _ c.leave.ensures c.mark-mark.ensures.names c.mark-mark.ensures.busy c.in_ok-check_binder.ensures.seen (back_declared _ _ _)
