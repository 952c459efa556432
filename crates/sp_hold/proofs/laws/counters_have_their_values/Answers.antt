use Rattle.sp_hold.proofs.Scopes.{counters_in_scope}
use Rattle.sp_hold.proofs.laws.counters_have_their_values.Goals as goal

pub returns : goal.returns
returns c = counters_in_scope
