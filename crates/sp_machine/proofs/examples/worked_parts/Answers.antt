-- Each is computed.
use Rattle.std.proofs.Common.{refl}
use Rattle.sp_machine.proofs.examples.worked_parts.Goals as goal

pub returns-clause-no_group : goal.returns-clause-no_group
returns-clause-no_group c = refl

pub returns-clause-one_group : goal.returns-clause-one_group
returns-clause-one_group c = refl

pub returns-clause-groups : goal.returns-clause-groups
returns-clause-groups c = refl

pub returns-clause-first_word : goal.returns-clause-first_word
returns-clause-first_word c = refl

pub returns-clause-last_word_of_a_burst : goal.returns-clause-last_word_of_a_burst
returns-clause-last_word_of_a_burst c = refl

pub returns-clause-first_word_of_the_next_burst : goal.returns-clause-first_word_of_the_next_burst
returns-clause-first_word_of_the_next_burst c = refl

pub returns-clause-looks_at_its_start : goal.returns-clause-looks_at_its_start
returns-clause-looks_at_its_start c = refl

pub returns-clause-looks_when_it_asks : goal.returns-clause-looks_when_it_asks
returns-clause-looks_when_it_asks c = refl

pub returns-clause-looks_two_words_ahead : goal.returns-clause-looks_two_words_ahead
returns-clause-looks_two_words_ahead c = refl

pub returns-clause-transfer_of_no_word : goal.returns-clause-transfer_of_no_word
returns-clause-transfer_of_no_word c = refl

pub returns-clause-transfer_of_a_burst : goal.returns-clause-transfer_of_a_burst
returns-clause-transfer_of_a_burst c = refl

pub returns-clause-transfer_of_two_bursts : goal.returns-clause-transfer_of_two_bursts
returns-clause-transfer_of_two_bursts c = refl
