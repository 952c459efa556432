use Rattle.sp_lane_groups.proofs.SharedStanding.{reads_stand}
use Rattle.sp_lane_groups.proofs.shared_reads.shared_reads_stand.Goals as goal

pub returns : goal.returns
returns c core = reads_stand core
