use Rattle.sp_bank_words.proofs.Serving.{accesses_are_served}
use Rattle.sp_bank_words.proofs.laws.accesses_are_served.Goals as goal

pub returns : goal.returns
returns c = accesses_are_served
