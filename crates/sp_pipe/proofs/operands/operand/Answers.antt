use Rattle.sp_pipe.proofs.WordLemmas.{taken_net, taken_in_time, taken_late}
use Rattle.sp_pipe.proofs.operands.operand.Goals as goal

pub overflow_sub-time : goal.overflow_sub-time
overflow_sub-time c = taken_in_time _ _ _ _ _ _ c.requires.within c.requires.taken c.requires.stages _ c.index-stages-place.is

pub delay-requires-clause-net : goal.delay-requires-clause-net
delay-requires-clause-net c = taken_net _ _ _ _ _ _ c.requires.within c.requires.taken c.requires.stages _ c.index-stages-place.is

pub returns-clause-word : goal.returns-clause-word
returns-clause-word c = taken_late _ _ _ _ _ _ c.requires.within c.requires.taken c.requires.stages _ c.index-stages-place.is _ _ c.in_ok-late.ensures.fills.grows c.in_ok-late.ensures.later
