use Rattle.std.proofs.Common.{[], ◌∷◌}
use Rattle.sp_gates.proofs.Growing.{Fills-join, HasNet-stays}
use Rattle.sp_mem.proofs.Waiting.{awaits_kept}
use Rattle.sp_worked_parts.proofs.Waiting.{awaited_net}
use Rattle.sp_worked_parts.proofs.count.collect.Goals as goal

pub operate-requires-clause-left : goal.operate-requires-clause-left
operate-requires-clause-left c = rw c.int.ensures (HasNet-stays _ _ _ _ c.in_ok-ten.ensures.fills.grows (awaited_net _ _ c.requires.y))

pub operate-requires-2-clause-right : goal.operate-requires-2-clause-right
operate-requires-2-clause-right c = rw c.int-2.ensures (HasNet-stays _ _ _ _ c.in_ok-moved.ensures.fills.grows (HasNet-stays _ _ _ _ c.in_ok-ten.ensures.fills.grows c.requires.word))

pub drive-requires-clause-net : goal.drive-requires-clause-net
drive-requires-clause-net c = awaits_kept _ _ _ _ c.in_ok-next.ensures.fills (awaits_kept _ _ _ _ c.in_ok-moved.ensures.fills (awaits_kept _ _ _ _ c.in_ok-ten.ensures.fills c.requires.y))

pub drive-requires-clause-enable : goal.drive-requires-clause-enable
drive-requires-clause-enable c = HasNet-stays _ _ _ _ c.in_ok-next.ensures.fills.grows (HasNet-stays _ _ _ _ c.in_ok-moved.ensures.fills.grows (HasNet-stays _ _ _ _ c.in_ok-ten.ensures.fills.grows c.requires.enable))

pub returns : goal.returns
returns c = record { fills = Fills-join _ _ _ [] (c.args.y ∷ []) c.in_ok-ten.ensures.fills (Fills-join _ _ _ [] (c.args.y ∷ []) c.in_ok-moved.ensures.fills (Fills-join _ _ _ [] (c.args.y ∷ []) c.in_ok-next.ensures.fills c.in_ok-drive.ensures.fills)) }
