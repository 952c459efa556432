use Rattle.sp_core_ports.proofs.CopiesDepths.{runs_have_copies}
use Rattle.sp_core_ports.proofs.copies.runs_have_copies.Goals as goal

pub returns : goal.returns
returns c = runs_have_copies
