-- Each is computed.
use Rattle.std.proofs.Common.{refl}
use Rattle.sp_words.specs.Words.{value_of, has_sign}
use Rattle.sp_bank_words.proofs.examples.worked_index.Goals as goal

pub returns-clause-signed : goal.returns-clause-signed
unfolding value_of has_sign
returns-clause-signed c = refl

pub returns-clause-zero : goal.returns-clause-zero
unfolding value_of has_sign
returns-clause-zero c = refl

pub returns-clause-none : goal.returns-clause-none
unfolding value_of has_sign
returns-clause-none c = refl
