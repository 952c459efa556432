use Rattle.sp_counted.proofs.Together.{run_in_time}
use Rattle.sp_counted.proofs.laws.counted_bodies_run_in_time.Goals as goal

pub returns : goal.returns
returns c = run_in_time c.bodies_run_in_time.ensures
