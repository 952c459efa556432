use Rattle.sp_ports.proofs.Turns.{ports_take_turns}
use Rattle.sp_ports.proofs.laws.ports_take_turns.Goals as goal

pub returns : goal.returns
returns c = ports_take_turns
