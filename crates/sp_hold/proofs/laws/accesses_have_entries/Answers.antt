use Rattle.sp_hold.proofs.Entries.{entries_are}
use Rattle.sp_hold.proofs.laws.accesses_have_entries.Goals as goal

pub returns : goal.returns
returns c = entries_are
