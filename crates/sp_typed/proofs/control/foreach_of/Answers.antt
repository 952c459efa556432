use Rattle.sp_typed.proofs.TreeLemmas.{plain_foreach}
use Rattle.sp_typed.proofs.control.foreach_of.Goals as goal

pub returns : goal.returns
returns c = plain_foreach c.args.style c.args.counters c.args.body
