use Rattle.sp_core_ports.proofs.BanksThere.{ports_are_there}
use Rattle.sp_core_ports.proofs.banks.ports_are_there.Goals as goal

pub returns : goal.returns
returns c = ports_are_there
