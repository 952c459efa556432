use Rattle.std.proofs.Common.{[]}
use Rattle.sp_gates.proofs.Growing.{Fills-join, IsOne-stays}
use Rattle.sp_worked_parts.proofs.machine.begin.Goals as goal

pub hold-requires-clause-enable : goal.hold-requires-clause-enable
hold-requires-clause-enable c = (IsOne-stays _ _ _ c.in_ok-zero.ensures.fills.grows c.requires).net_stands

pub returns-clause-fills : goal.returns-clause-fills
returns-clause-fills c = Fills-join _ _ _ [] [] c.in_ok-zero.ensures.fills c.in_ok-start.ensures.fills
