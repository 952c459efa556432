use Rattle.sp_memory_words.proofs.Reading.{arguments_answer}
use Rattle.sp_memory_words.proofs.laws.arguments_answer.Goals as goal

pub returns : goal.returns
returns c core plan = arguments_answer core plan
