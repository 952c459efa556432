use Rattle.sp_bank_words.proofs.Rows.{lines_hold_words}
use Rattle.sp_bank_words.proofs.laws.lines_hold_words.Goals as goal

pub returns : goal.returns
returns c = lines_hold_words c.lines_are_buffers.ensures
