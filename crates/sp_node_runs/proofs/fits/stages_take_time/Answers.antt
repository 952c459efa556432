use Rattle.sp_node_runs.proofs.FitsTakes.{stages_take_time}
use Rattle.sp_node_runs.proofs.fits.stages_take_time.Goals as goal

pub returns : goal.returns
returns c core plan delays = stages_take_time core plan delays
