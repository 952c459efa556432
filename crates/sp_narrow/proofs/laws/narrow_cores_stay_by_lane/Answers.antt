use Rattle.sp_narrow.proofs.ByLane.{stays_by_lane}
use Rattle.sp_narrow.proofs.laws.narrow_cores_stay_by_lane.Goals as goal

pub returns : goal.returns
returns c core = stays_by_lane core
