use Rattle.sp_counters.proofs.Through.{run_through_groups}
use Rattle.sp_counters.proofs.laws.counters_run_through_groups.Goals as goal

pub returns : goal.returns
returns c = run_through_groups
