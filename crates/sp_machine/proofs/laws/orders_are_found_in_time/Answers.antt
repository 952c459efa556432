use Rattle.sp_machine.proofs.Finding.{are_found}
use Rattle.sp_machine.proofs.laws.orders_are_found_in_time.Goals as goal

pub returns : goal.returns
returns c = are_found
