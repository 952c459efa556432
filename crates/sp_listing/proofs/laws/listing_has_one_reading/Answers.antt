use Rattle.sp_listing.proofs.LawLemmas.{one_reading}
use Rattle.sp_listing.proofs.laws.listing_has_one_reading.Goals as goal

pub returns : goal.returns
returns c = one_reading
