-- Each is computed.
use Rattle.std.proofs.Common.{refl}
use Rattle.sp_bank_words.proofs.examples.worked_layout.Goals as goal

pub returns-clause-bank : goal.returns-clause-bank
returns-clause-bank c = refl

pub returns-clause-place : goal.returns-clause-place
returns-clause-place c = refl
