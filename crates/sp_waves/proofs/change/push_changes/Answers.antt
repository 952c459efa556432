use Rattle.sp_waves.proofs.ListLemmas.{drop-turn, one_more, none_left, changes_turn, changes_none, changes_before, changes_now}
use Rattle.sp_waves.proofs.change.push_changes.Goals as goal

-- no old word is left
pub returns-in_default : goal.returns-in_default
returns-in_default c = none_left _ _ _ (changes_before c.args.signals.now c.args.before.now c.args.now.now c.loop-i.i c.in_default.ensures.lookup.3) c.loop-i.invariant

-- no new word is left
pub returns-in_default-get : goal.returns-in_default-get
returns-in_default-get c = none_left _ _ _ (changes_now c.args.signals.now c.args.before.now c.args.now.now c.loop-i.i c.in_default-get.ensures.lookup.3) c.loop-i.invariant

pub loop-i-preserved : goal.loop-i-preserved
loop-i-preserved c =
    let old = c.in-Some.ensures.lookup in
    let new = c.in-Some-get.ensures.lookup in
    one_more _ _ _ _ _ _ (changes_turn c.args.signals.now c.args.before.now c.args.now.now c.loop-i.i c.index-signals-i.result c.in-Some.old_word.now c.in-Some-get.new_word.now
    (drop-turn c.args.signals.now c.loop-i.i c.index-signals-i.result c.loop-i-test.true c.index-signals-i.is)
    (drop-turn c.args.before.now c.loop-i.i c.in-Some.old_word.now old.3.0 old.1)
    (drop-turn c.args.now.now c.loop-i.i c.in-Some-get.new_word.now new.3.0 new.1)) c.in_ok-push_change.ensures c.loop-i.invariant

-- no signal is left
pub returns : goal.returns
returns c = none_left _ _ _ (changes_none c.args.signals.now c.args.before.now c.args.now.now c.loop-i.i c.loop-i-test.false) c.loop-i.invariant
