use Rattle.sp_part_runs.proofs.ControlBranching.{branch_works}
use Rattle.sp_part_runs.proofs.control.branches_work.Goals as goal

pub returns : goal.returns
returns c = branch_works
