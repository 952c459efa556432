use Rattle.sp_lane_groups.proofs.SharedStanding.{words_agree}
use Rattle.sp_lane_groups.proofs.shared_reads.shared_words_agree.Goals as goal

pub returns : goal.returns
returns c core = words_agree core
