use Rattle.sp_listing.proofs.BreakLemmas.{breaks_nowhere}
use Rattle.sp_listing.proofs.laws.listing_breaks_nowhere.Goals as goal

pub returns : goal.returns
returns c = breaks_nowhere
