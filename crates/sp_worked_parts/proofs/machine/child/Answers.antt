use Rattle.sp_gates.proofs.Growing.{IsOne-stays}
use Rattle.sp_mem.proofs.Waiting.{awaits_kept}
use Rattle.sp_worked_parts.proofs.Waiting.{opens_more}
use Rattle.sp_worked_parts.proofs.machine.child.Goals as goal

pub delay-requires-clause-one : goal.delay-requires-clause-one
delay-requires-clause-one c = IsOne-stays _ _ _ c.in_ok-start.ensures.opens.grows c.requires

pub returns-clause-opens : goal.returns-clause-opens
returns-clause-opens c = opens_more _ _ _ _ c.in_ok-start.ensures.opens c.in_ok-done.ensures.fills

pub returns-clause-child : goal.returns-clause-child
returns-clause-child c = record { start = awaits_kept _ _ _ _ c.in_ok-done.ensures.fills c.in_ok-start.ensures.awaits; done = c.in_ok-done.ensures.net }
