use Rattle.sp_listing.proofs.ReadBack.{reads_back}
use Rattle.sp_listing.proofs.laws.netlist_reads_back.Goals as goal

pub returns : goal.returns
returns c = reads_back c.refusals_exact.ensures
