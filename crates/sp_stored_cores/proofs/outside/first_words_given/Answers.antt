use Rattle.sp_stored_cores.proofs.FirstWords.{first_words_given}
use Rattle.sp_stored_cores.proofs.outside.first_words_given.Goals as goal

pub returns : goal.returns
returns c = first_words_given
