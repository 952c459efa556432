-- Each is computed.
use Rattle.std.proofs.Common.{refl}
use Rattle.sp_core_ports.specs.UsedExamples.{two_readers}
use Rattle.sp_bank_words.proofs.examples.worked_numbers.Goals as goal

pub returns-clause-accesses : goal.returns-clause-accesses
unfolding two_readers
returns-clause-accesses c = refl

pub returns-clause-changes : goal.returns-clause-changes
unfolding two_readers
returns-clause-changes c = refl

pub returns-clause-words : goal.returns-clause-words
unfolding two_readers
returns-clause-words c = refl
