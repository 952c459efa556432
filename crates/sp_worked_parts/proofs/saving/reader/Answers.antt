use Rattle.std.proofs.Common.{[], ◌∷◌}
use Rattle.sp_gates.proofs.Growing.{Fills-join, HasNet-stays}
use Rattle.sp_mem.proofs.Waiting.{awaits_kept}
use Rattle.sp_worked_parts.proofs.saving.reader.Goals as goal

pub hold-requires-clause-enable : goal.hold-requires-clause-enable
hold-requires-clause-enable c = HasNet-stays _ _ _ _ c.in_ok-found.ensures.fills.grows c.requires.one

pub drive-requires-clause-net : goal.drive-requires-clause-net
drive-requires-clause-net c = awaits_kept _ _ _ _ c.in_ok-tap.ensures.fills (awaits_kept _ _ _ _ c.in_ok-found.ensures.fills c.requires.z)

pub drive-requires-clause-enable : goal.drive-requires-clause-enable
drive-requires-clause-enable c = HasNet-stays _ _ _ _ c.in_ok-tap.ensures.fills.grows (HasNet-stays _ _ _ _ c.in_ok-found.ensures.fills.grows c.requires.one)

pub returns : goal.returns
returns c = record { fills = Fills-join _ _ _ [] (c.args.z ∷ []) c.in_ok-found.ensures.fills (Fills-join _ _ _ [] (c.args.z ∷ []) c.in_ok-tap.ensures.fills c.in_ok-drive.ensures.fills) }
