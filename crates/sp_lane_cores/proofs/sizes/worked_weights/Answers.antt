-- Each is computed.
use Rattle.std.proofs.Common.{refl}
use Rattle.sp_lanes.specs.Examples.{shared_reads, nested}
use Rattle.sp_lane_cores.proofs.sizes.worked_weights.Goals as goal

pub returns-clause-shared : goal.returns-clause-shared
unfolding shared_reads
returns-clause-shared c = refl

pub returns-clause-nested : goal.returns-clause-nested
unfolding nested
returns-clause-nested c = refl
