use Rattle.sp_part_runs.proofs.ControlTurning.{machine_works}
use Rattle.sp_part_runs.proofs.control.machines_work.Goals as goal

pub returns : goal.returns
returns c = machine_works
