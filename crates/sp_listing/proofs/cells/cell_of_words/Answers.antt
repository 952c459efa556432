use Rattle.sp_listing.proofs.KindLemmas.{no_kind}
use Rattle.sp_listing.proofs.cells.cell_of_words.Goals as goal

pub returns-in-None : goal.returns-in-None
returns-in-None c = no_kind c.args.words.now c.in-None.ensures
