use Rattle.sp_bank_ports.proofs.Served.{all_written, each_found}
use Rattle.sp_bank_ports.proofs.laws.served_banks.Goals as goal

pub returns : goal.returns
returns c = record { writes = all_written; reads = each_found }
