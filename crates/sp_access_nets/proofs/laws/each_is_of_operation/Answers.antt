use Rattle.sp_access_nets.proofs.Telling.{of_operation}
use Rattle.sp_access_nets.proofs.laws.each_is_of_operation.Goals as goal

pub returns : goal.returns
returns c = of_operation
