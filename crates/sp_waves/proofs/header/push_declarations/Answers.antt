use Rattle.sp_waves.proofs.ListLemmas.{drop-turn, one_more, none_left, declared_turn, declared_none}
use Rattle.sp_waves.proofs.header.push_declarations.Goals as goal

pub loop-i-preserved : goal.loop-i-preserved
loop-i-preserved c =
    one_more _ _ _ _ _ _ (declared_turn c.args.signals.now c.loop-i.i c.index-signals-i.result
    (drop-turn c.args.signals.now c.loop-i.i c.index-signals-i.result c.loop-i-test.true c.index-signals-i.is)) (rw c.deref.ensures at c.in_ok-push_declaration.ensures) c.loop-i.invariant

pub returns : goal.returns
returns c = none_left _ _ _ (declared_none c.args.signals.now c.loop-i.i c.loop-i-test.false) c.loop-i.invariant
