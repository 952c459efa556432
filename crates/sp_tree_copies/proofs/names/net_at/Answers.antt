use Rattle.std.proofs.Common.{sym}
use Rattle.std.proofs.lemmas.Bool.{ltb-true}
use Rattle.sp_tree_copies.proofs.Tables.{at_index, past_all}
use Rattle.sp_tree_copies.proofs.names.net_at.Goals as goal

pub returns-in-Some : goal.returns-in-Some
returns-in-Some c = at_index c.args.around.now c.args.m c.in-Some.net.now (ltb-true _ _ (sym c.in-Some.ensures.lookup.0)) c.in-Some.ensures.lookup.1

pub returns-in-None : goal.returns-in-None
returns-in-None c = past_all c.args.around.now c.args.m c.in-None.ensures.lookup.3
