-- Each is computed.
use Rattle.std.proofs.Common.{◌<◌, arith}
use Rattle.sp_core_ports.proofs.banks_examples.worked_banks.Goals as goal

pub returns-clause-there : goal.returns-clause-there
returns-clause-there c = record { copy = omega arith; duplicate = omega arith; bank = omega arith }

pub returns-clause-no_bank : goal.returns-clause-no_bank
returns-clause-no_bank c h = let x : 2 < 2 = h.bank in absurd (omega (arith, x))

pub returns-clause-no_duplicate : goal.returns-clause-no_duplicate
returns-clause-no_duplicate c h = let x : 2 < 2 = h.duplicate in absurd (omega (arith, x))

pub returns-clause-no_copy : goal.returns-clause-no_copy
returns-clause-no_copy c h = let x : 1 < 1 = h.copy in absurd (omega (arith, x))
