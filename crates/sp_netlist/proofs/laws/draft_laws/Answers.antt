use Rattle.sp_netlist.proofs.DraftNames.{draft_laws}
use Rattle.sp_netlist.proofs.laws.draft_laws.Goals as goal

pub returns : goal.returns
returns c = draft_laws
