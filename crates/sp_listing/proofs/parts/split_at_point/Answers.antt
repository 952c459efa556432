use Rattle.std.proofs.Common.{lit<}
use Rattle.sp_listing.proofs.TextLemmas.{cut_once}
use Rattle.sp_listing.proofs.parts.split_at_point.Goals as goal

pub returns : goal.returns
returns c = cut_once 46 c.args.bits.now c.split_once.result c.split_once.ensures.cases (lit< tt)
