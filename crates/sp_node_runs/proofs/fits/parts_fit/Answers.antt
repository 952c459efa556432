use Rattle.sp_node_runs.proofs.FitsParts.{parts_fit}
use Rattle.sp_node_runs.proofs.fits.parts_fit.Goals as goal

pub returns : goal.returns
returns c core plan delays = parts_fit core plan delays
