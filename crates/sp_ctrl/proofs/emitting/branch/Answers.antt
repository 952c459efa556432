use Rattle.std.proofs.Common.{◌&&◌, not, [], ◌∷◌, refl}
use Rattle.sp_gates.specs.Tested.{is_on}
use Rattle.sp_gates.proofs.Growing.{Fills-join, HasNet-stays, IsOne-stays}
use Rattle.sp_gates.proofs.Running.{runs_earlier}
use Rattle.sp_ctrl.proofs.Causes.{is_after}
use Rattle.sp_ctrl.proofs.Waiting.{awaits_kept, awaits_beside}
use Rattle.sp_ctrl.proofs.emitting.branch.Goals as goal

pub after_either-requires-clause-one : goal.after_either-requires-clause-one
after_either-requires-clause-one c = IsOne-stays _ _ _ c.in_ok-decision.ensures.fills.grows (c.requires.one)

pub drive_after-requires-clause-net : goal.drive_after-requires-clause-net
drive_after-requires-clause-net c = awaits_kept _ _ _ _ c.in_ok-done.ensures.fills (awaits_kept _ _ _ _ c.in_ok-decision.ensures.fills (c.requires.fits.test_child.start))

pub drive_after-requires-clause-next : goal.drive_after-requires-clause-next
drive_after-requires-clause-next c = HasNet-stays _ _ _ _ c.in_ok-done.ensures.fills.grows (HasNet-stays _ _ _ _ c.in_ok-decision.ensures.fills.grows (c.requires.fits.start_net))

pub drive_after-requires-clause-one : goal.drive_after-requires-clause-one
drive_after-requires-clause-one c = IsOne-stays _ _ _ c.in_ok-done.ensures.fills.grows (IsOne-stays _ _ _ c.in_ok-decision.ensures.fills.grows (c.requires.one))

pub drive_after-requires-2-clause-net : goal.drive_after-requires-2-clause-net
drive_after-requires-2-clause-net c = awaits_beside _ _ _ _ _ c.in_ok-drive_after.ensures.fills c.requires.fits.yes_apart (awaits_kept _ _ _ _ c.in_ok-done.ensures.fills (awaits_kept _ _ _ _ c.in_ok-decision.ensures.fills (c.requires.fits.yes_child.start)))

pub drive_after-requires-2-clause-next : goal.drive_after-requires-2-clause-next
drive_after-requires-2-clause-next c = HasNet-stays _ _ _ _ c.in_ok-drive_after.ensures.fills.grows (HasNet-stays _ _ _ _ c.in_ok-done.ensures.fills.grows (c.in_ok-decision.ensures.yes_net))

pub drive_after-requires-2-clause-one : goal.drive_after-requires-2-clause-one
drive_after-requires-2-clause-one c = IsOne-stays _ _ _ c.in_ok-drive_after.ensures.fills.grows (IsOne-stays _ _ _ c.in_ok-done.ensures.fills.grows (IsOne-stays _ _ _ c.in_ok-decision.ensures.fills.grows (c.requires.one)))

pub drive_after-requires-3-clause-net : goal.drive_after-requires-3-clause-net
drive_after-requires-3-clause-net c = awaits_beside _ _ _ _ _ c.in_ok-drive_after-2.ensures.fills c.requires.fits.both_apart (awaits_beside _ _ _ _ _ c.in_ok-drive_after.ensures.fills c.requires.fits.no_apart (awaits_kept _ _ _ _ c.in_ok-done.ensures.fills (awaits_kept _ _ _ _ c.in_ok-decision.ensures.fills (c.requires.fits.no_child.start))))

pub drive_after-requires-3-clause-next : goal.drive_after-requires-3-clause-next
drive_after-requires-3-clause-next c = HasNet-stays _ _ _ _ c.in_ok-drive_after-2.ensures.fills.grows (HasNet-stays _ _ _ _ c.in_ok-drive_after.ensures.fills.grows (HasNet-stays _ _ _ _ c.in_ok-done.ensures.fills.grows (c.in_ok-decision.ensures.no_net)))

pub drive_after-requires-3-clause-one : goal.drive_after-requires-3-clause-one
drive_after-requires-3-clause-one c = IsOne-stays _ _ _ c.in_ok-drive_after-2.ensures.fills.grows (IsOne-stays _ _ _ c.in_ok-drive_after.ensures.fills.grows (IsOne-stays _ _ _ c.in_ok-done.ensures.fills.grows (IsOne-stays _ _ _ c.in_ok-decision.ensures.fills.grows (c.requires.one))))

pub returns-clause-fills : goal.returns-clause-fills
returns-clause-fills c = Fills-join _ _ _ [] _ c.in_ok-decision.ensures.fills (Fills-join _ _ _ [] _ c.in_ok-done.ensures.fills (Fills-join _ _ _ (_ ∷ []) _ c.in_ok-drive_after.ensures.fills (Fills-join _ _ _ (_ ∷ []) _ c.in_ok-drive_after-2.ensures.fills (c.in_ok-drive_after-3.ensures.fills))))

pub returns-clause-net : goal.returns-clause-net
returns-clause-net c = HasNet-stays _ _ _ _ c.in_ok-drive_after-3.ensures.fills.grows (HasNet-stays _ _ _ _ c.in_ok-drive_after-2.ensures.fills.grows (HasNet-stays _ _ _ _ c.in_ok-drive_after.ensures.fills.grows (c.in_ok-done.ensures.net)))

pub returns-clause-runs : goal.returns-clause-runs
returns-clause-runs c = λ s r.
    let r3 = runs_earlier _ _ s c.in_ok-drive_after-3.ensures.fills.grows r in
    let r2 = runs_earlier _ _ s c.in_ok-drive_after-2.ensures.fills.grows r3 in
    let r1 = runs_earlier _ _ s c.in_ok-drive_after.ensures.fills.grows r2 in
    let r0 = runs_earlier _ _ s c.in_ok-done.ensures.fills.grows r1 in
    record {
      tests = is_after (is_on s c.args.test.start) (is_on s c.args.start) (is_on s c.args.start) (c.in_ok-drive_after.ensures.first s r2) (c.in_ok-drive_after.ensures.later s r2) (λ t. refl);
      goes = is_after (is_on s c.args.yes.start) (is_on s c.in_ok-decision.decision.yes) (λ t. is_on s c.args.test.done t && is_on s c.args.tested t) (c.in_ok-drive_after-2.ensures.first s r3) (c.in_ok-drive_after-2.ensures.later s r3) (c.in_ok-decision.ensures.yes s r0);
      turns = is_after (is_on s c.args.no.start) (is_on s c.in_ok-decision.decision.no) (λ t. is_on s c.args.test.done t && not (is_on s c.args.tested t)) (c.in_ok-drive_after-3.ensures.first s r) (c.in_ok-drive_after-3.ensures.later s r) (c.in_ok-decision.ensures.no s r0);
      ends = c.in_ok-done.ensures.after s r1;
    }
