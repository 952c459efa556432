use Rattle.std.proofs.Common.{sym, refl}
use Rattle.std.proofs.lemmas.Bool.{ltb-true}
use Rattle.sp_tree_copies.proofs.Walking.{keep_stands}
use Rattle.sp_tree_copies.proofs.names.keep_next.Goals as goal

pub returns-clause-stand : goal.returns-clause-stand
returns-clause-stand c core turns loops d all stand h =
    keep_stands d core turns c.args.kept.now loops c.args.around.now c.args.walk.now.states c.args.state c.in-Some.next.now c.net_at-copy.result c.args.walk.now _ (ltb-true _ _ (sym c.in-Some.ensures.lookup.0)) c.in-Some.ensures.lookup.1 c.net_at-copy.ensures refl refl c.in_ok-push.ensures.items all stand h
