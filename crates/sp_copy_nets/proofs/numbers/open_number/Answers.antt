use Rattle.sp_copy_nets.proofs.Promising.{one_promise}
use Rattle.sp_copy_nets.proofs.numbers.open_number.Goals as goal

pub returns-clause-promises : goal.returns-clause-promises
returns-clause-promises c = one_promise _ _ c.in_ok-net.net c.in_ok-net.ensures.opens c.in_ok-net.ensures.awaits
