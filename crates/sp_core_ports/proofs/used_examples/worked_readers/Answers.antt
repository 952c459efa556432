-- Each is computed.
use Rattle.std.proofs.Common.{refl}
use Rattle.sp_core_ports.specs.UsedExamples.{two_readers}
use Rattle.sp_core_ports.proofs.used_examples.worked_readers.Goals as goal

pub returns-clause-readers : goal.returns-clause-readers
unfolding two_readers
returns-clause-readers c = refl

pub returns-clause-nobody : goal.returns-clause-nobody
unfolding two_readers
returns-clause-nobody c = refl

pub returns-clause-first : goal.returns-clause-first
unfolding two_readers
returns-clause-first c = refl

pub returns-clause-second : goal.returns-clause-second
unfolding two_readers
returns-clause-second c = refl

pub returns-clause-shared : goal.returns-clause-shared
unfolding two_readers
returns-clause-shared c = refl
