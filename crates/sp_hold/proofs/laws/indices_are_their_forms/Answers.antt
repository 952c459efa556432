use Rattle.sp_hold.proofs.IndexLemmas.{index_is_form}
use Rattle.sp_hold.proofs.laws.indices_are_their_forms.Goals as goal

pub returns : goal.returns
returns c = index_is_form c.divisions_leave_remainders.ensures.down
