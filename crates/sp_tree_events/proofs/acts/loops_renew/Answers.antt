use Rattle.sp_tree_events.proofs.ActsLoops.{loops_renew}
use Rattle.sp_tree_events.proofs.acts.loops_renew.Goals as goal

pub returns : goal.returns
returns c core plan delays =
    loops_renew core plan delays c.beats_in_order.ensures c.loops_are_in_timeline.ensures c.numbers_go_round.ensures (c.timelines_tell_all.ensures core plan delays) (c.runs_own.ensures core) (c.stages_are_told.ensures core plan delays)
