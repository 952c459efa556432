use Rattle.sp_listing.proofs.BreakLemmas.{one_line}
use Rattle.sp_listing.proofs.laws.text_breaks_at_one_line.Goals as goal

pub returns : goal.returns
returns c = one_line
