use Rattle.std.proofs.Common.{[], ◌∷◌}
use Rattle.sp_gates.proofs.Growing.{Fills-join, reserved}
use Rattle.sp_mem.proofs.Waiting.{awaits_kept}
use Rattle.sp_worked_parts.proofs.count.cycle.Goals as goal

pub drive-requires-clause-net : goal.drive-requires-clause-net
drive-requires-clause-net c = awaits_kept _ _ _ _ c.in_ok-next.ensures.fills (awaits_kept _ _ _ _ c.in_ok-step.ensures.fills c.in_ok-count.ensures.awaits)

pub returns-clause-fills : goal.returns-clause-fills
returns-clause-fills c =
    reserved _ _ _ c.in_ok-count.count [] c.in_ok-count.ensures.opens
    (Fills-join _ _ _ [] (c.in_ok-count.count ∷ []) c.in_ok-step.ensures.fills (Fills-join _ _ _ [] (c.in_ok-count.count ∷ []) c.in_ok-next.ensures.fills c.in_ok-drive.ensures.fills))
