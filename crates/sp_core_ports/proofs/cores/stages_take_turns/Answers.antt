use Rattle.sp_core_ports.proofs.CoreStages.{stages_take_turns}
use Rattle.sp_core_ports.proofs.cores.stages_take_turns.Goals as goal

pub returns : goal.returns
returns c = stages_take_turns
