use Rattle.sp_memory_words.proofs.Reading.{registers_answer}
use Rattle.sp_memory_words.proofs.laws.registers_answer.Goals as goal

pub returns : goal.returns
returns c core plan = registers_answer core plan
