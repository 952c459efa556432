use Rattle.sp_setup.proofs.ReadingLemmas.{number_reading-word, number_reading-none}
use Rattle.sp_setup.proofs.reading.read_number.Goals as goal

pub returns-in-Some : goal.returns-in-Some
returns-in-Some c = number_reading-word c.values_are_a_range.ensures.in_range c.values_are_a_range.ensures.each_word _ _ _ _ _ c.in-Some.ensures.is_word c.in-Some.ensures.value

pub returns-in-None : goal.returns-in-None
returns-in-None c = number_reading-none _ _ _ _ (λ range. let some = c.in-None.ensures.exists.1 range in absurd (cc))
