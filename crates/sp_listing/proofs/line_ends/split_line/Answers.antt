use Rattle.std.proofs.Common.{sym, ◌∙◌}
use Rattle.sp_listing.proofs.FirstLine.{first_ended, first_alone}
use Rattle.sp_listing.proofs.line_ends.split_line.Goals as goal

pub returns-in-Some : goal.returns-in-Some
returns-in-Some c = first_ended c.args.text.now c.in-Some.end (sym c.line_end.ensures ∙ c.in-Some.is)

pub returns-in-None : goal.returns-in-None
returns-in-None c = first_alone c.args.text.now (sym c.line_end.ensures ∙ c.in-None.is)
