use Rattle.std.proofs.Common.{◌∙◌, ap, arith}
use Rattle.sp_listing.specs.Readers.{texts}
use Rattle.sp_listing.proofs.LineLemmas.{no_text, many_blanks, words_read}
use Rattle.sp_listing.proofs.cells.cell_of_line.Goals as goal

pub returns-in_default : goal.returns-in_default
returns-in_default c = no_text c.args.line.now c.in_default.ensures.cases.0

pub returns : goal.returns
returns c = words_read c.args.line.now c.in-Ok.line.now (texts c.deref.result.now) c.cell_of_words.result c.in-Ok.ensures.cases.0 (ap texts c.deref.ensures.value ∙ c.in_ok-words.ensures) c.cell_of_words.ensures

pub returns-then-count_blanks-gt7 : goal.returns-then-count_blanks-gt7
returns-then-count_blanks-gt7 c = many_blanks c.args.line.now (let e = c.count_blanks.ensures in let more = c.if-count_blanks-gt7.true in omega (arith, e, more))
