use Rattle.sp_core_ports.proofs.CopiesDepths.{plans_have_copies}
use Rattle.sp_core_ports.proofs.copies.plans_have_copies.Goals as goal

pub returns : goal.returns
returns c = plans_have_copies
