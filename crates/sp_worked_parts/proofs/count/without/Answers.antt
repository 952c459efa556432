use Rattle.std.proofs.Common.{[]}
use Rattle.sp_gates.proofs.Growing.{Fills-join}
use Rattle.sp_worked_parts.proofs.count.without.Goals as goal

pub returns-clause-fills : goal.returns-clause-fills
returns-clause-fills c = Fills-join _ _ _ [] [] c.in_ok-whole.ensures.fills c.in_ok-rest.ensures.fills
