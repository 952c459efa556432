use Rattle.sp_tree_events.proofs.CopiesGoing.{numbers_stand}
use Rattle.sp_tree_events.proofs.copies.numbers_stand.Goals as goal

pub returns : goal.returns
returns c core plan delays = numbers_stand core plan delays c.beats_in_order.ensures c.loops_are_in_timeline.ensures c.numbers_go_round.ensures
