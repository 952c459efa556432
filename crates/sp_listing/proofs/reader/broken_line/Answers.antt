use Rattle.std.proofs.Common.{[], ◌∷◌, sym, ◌∙◌, ap}
use Rattle.std.proofs.lemmas.Bool.{false≢true}
use Rattle.sp_listing.specs.Reading.{pieces}
use Rattle.sp_listing.proofs.FirstLine.{no_heading}
use Rattle.sp_listing.proofs.ListingLemmas.{heading_alone}
use Rattle.sp_listing.proofs.reader.broken_line.Goals as goal

pub returns-then-is_heading : goal.returns-then-is_heading
returns-then-is_heading c = heading_alone (pieces c.args.text.now) (c.requires ∙ ap (λ line. line ∷ []) (c.is_heading.ensures.0 c.if-is_heading.true))

pub returns-else-is_heading : goal.returns-else-is_heading
returns-else-is_heading c = no_heading c.args.text.now c.args.text.now [] c.requires (λ e. false≢true (sym c.if-is_heading.false ∙ c.is_heading.ensures.1 e))
