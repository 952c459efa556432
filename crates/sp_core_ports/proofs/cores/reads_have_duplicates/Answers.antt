use Rattle.sp_core_ports.proofs.CoreWhole.{reads_have_duplicates}
use Rattle.sp_core_ports.proofs.cores.reads_have_duplicates.Goals as goal

pub returns : goal.returns
returns c = reads_have_duplicates
