use Rattle.sp_lane_nets.proofs.Wrapped.{lane_words}
use Rattle.sp_lane_nets.proofs.laws.lanes_have_words.Goals as goal

pub returns : goal.returns
returns c = lane_words
