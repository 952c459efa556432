use Rattle.std.proofs.Common.{[], ◌∷◌}
use Rattle.sp_gates.proofs.Growing.{Fills-join, HasNet-stays, IsOne-stays, reserved}
use Rattle.sp_gates.proofs.Running.{runs_earlier}
use Rattle.sp_mem.proofs.Waiting.{awaits_kept}
use Rattle.sp_ring.proofs.Going.{counts}
use Rattle.sp_ring.proofs.places.counted.Goals as goal

pub drive-requires-clause-net : goal.drive-requires-clause-net
drive-requires-clause-net c = awaits_kept _ _ _ _ c.in_ok-next.ensures.fills c.in_ok-place.ensures.awaits

pub drive-requires-clause-enable : goal.drive-requires-clause-enable
drive-requires-clause-enable c = (IsOne-stays _ _ _ c.in_ok-next.ensures.fills.grows (IsOne-stays _ _ _ c.in_ok-place.ensures.opens.grows c.requires.one)).net_stands

pub returns-clause-fills : goal.returns-clause-fills
returns-clause-fills c =
    reserved _ _ _ c.in_ok-place.place [] c.in_ok-place.ensures.opens (Fills-join _ _ _ [] (c.in_ok-place.place ∷ []) c.in_ok-next.ensures.fills c.in_ok-drive.ensures.fills)

pub returns-clause-net : goal.returns-clause-net
returns-clause-net c = HasNet-stays _ _ _ _ c.in_ok-drive.ensures.fills.grows (HasNet-stays _ _ _ _ c.in_ok-next.ensures.fills.grows c.in_ok-place.ensures.net)

pub returns-clause-counts : goal.returns-clause-counts
returns-clause-counts c = λ s run.
    let second = runs_earlier _ _ s c.in_ok-drive.ensures.fills.grows run in
    let first = runs_earlier _ _ s c.in_ok-next.ensures.fills.grows second in
    let before = runs_earlier _ _ s c.in_ok-place.ensures.opens.grows first in
    counts s c.args.len c.args.on c.args.fresh c.in_ok-place.place c.in_ok-next.next c.args.one c.requires.length.0 (c.in_ok-drive.ensures.word s run) (c.requires.one.always s before) (c.in_ok-next.ensures.word s second)
