use Rattle.std.proofs.Common.{sym}
use Rattle.std.proofs.lemmas.Bool.{ltb-true}
use Rattle.sp_tree_nets.proofs.Slicing.{end_there, end_past}
use Rattle.sp_tree_nets.proofs.moves.end_of.Goals as goal

pub returns-in-Some : goal.returns-in-Some
returns-in-Some c = end_there c.args.ends.now c.args.index c.in-Some.end.now (ltb-true _ _ (sym c.in-Some.ensures.lookup.0)) c.in-Some.ensures.lookup.1

pub returns-in-None : goal.returns-in-None
returns-in-None c = end_past c.args.ends.now c.args.index c.in-None.ensures.lookup.3
