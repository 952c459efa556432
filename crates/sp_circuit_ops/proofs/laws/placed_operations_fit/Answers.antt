use Rattle.sp_circuit_ops.proofs.Fitting.{fits}
use Rattle.sp_circuit_ops.proofs.laws.placed_operations_fit.Goals as goal

pub returns : goal.returns
returns c = fits
