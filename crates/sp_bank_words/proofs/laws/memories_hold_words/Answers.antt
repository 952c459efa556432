use Rattle.sp_bank_words.proofs.Words.{memories_hold_words}
use Rattle.sp_bank_words.proofs.laws.memories_hold_words.Goals as goal

pub returns : goal.returns
returns c = memories_hold_words c.memories_are_arrays.ensures
