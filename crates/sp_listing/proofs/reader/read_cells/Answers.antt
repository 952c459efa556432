use Rattle.std.proofs.Common.{sym, ◌∙◌}
use Rattle.std.proofs.lemmas.Bool.{false≢true}
use Rattle.sp_listing.specs.Reading.{pieces}
use Rattle.sp_listing.proofs.FirstLine.{no_heading}
use Rattle.sp_listing.proofs.ListingLemmas.{text_read}
use Rattle.sp_listing.proofs.reader.read_cells.Goals as goal

pub returns-then-not-is_heading : goal.returns-then-not-is_heading
returns-then-not-is_heading c =
    no_heading c.args.text.now c.in-Some.first.now (pieces c.in-Some.body.now) c.in-Some.ensures.0 (λ e. false≢true (sym c.if-not-is_heading.true ∙ c.is_heading.ensures.1 e))

pub returns : goal.returns
returns c =
    text_read c.args.text.now c.in-Some.body.now c.in-Some.first.now c.in_ok-declared.declared c.read_body.result c.in-Some.ensures.0 (c.is_heading.ensures.0 c.if-not-is_heading.false) c.in_ok-declared.ensures c.read_body.ensures
