use Rattle.sp_bank_words.proofs.Worked.{worked_accesses}
use Rattle.sp_bank_words.proofs.examples.worked_accesses.Goals as goal

pub returns : goal.returns
returns c = worked_accesses
