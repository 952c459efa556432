use Rattle.sp_memory_words.proofs.Numbered.{operations_stay}
use Rattle.sp_memory_words.proofs.laws.operations_stay.Goals as goal

pub returns : goal.returns
returns c core plan = operations_stay c.numbers_stand_for_one.ensures core plan
