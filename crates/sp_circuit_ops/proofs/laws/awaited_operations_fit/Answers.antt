use Rattle.sp_circuit_ops.proofs.Fitting.{awaited_fit}
use Rattle.sp_circuit_ops.proofs.laws.awaited_operations_fit.Goals as goal

pub returns : goal.returns
returns c = awaited_fit
