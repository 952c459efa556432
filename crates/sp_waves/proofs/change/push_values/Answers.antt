use Rattle.sp_waves.proofs.ListLemmas.{drop-turn, one_more, none_left, values_turn, values_none, values_over}
use Rattle.sp_waves.proofs.change.push_values.Goals as goal

-- no word is left
pub returns-in_default : goal.returns-in_default
returns-in_default c = none_left _ _ _ (values_over c.args.signals.now c.args.words.now c.loop-i.i c.in_default.ensures.lookup.3) c.loop-i.invariant

pub loop-i-preserved : goal.loop-i-preserved
loop-i-preserved c =
    let found = c.in-Some.ensures.lookup in
    one_more _ _ _ _ _ _ (values_turn c.args.signals.now c.args.words.now c.loop-i.i c.index-signals-i.result c.in-Some.word.now
    (drop-turn c.args.signals.now c.loop-i.i c.index-signals-i.result c.loop-i-test.true c.index-signals-i.is)
    (drop-turn c.args.words.now c.loop-i.i c.in-Some.word.now found.3.0 found.1)) c.in_ok-push_value.ensures c.loop-i.invariant

-- no signal is left
pub returns : goal.returns
returns c = none_left _ _ _ (values_none c.args.signals.now c.args.words.now c.loop-i.i c.loop-i-test.false) c.loop-i.invariant
