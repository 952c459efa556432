use Rattle.std.proofs.Common.{◌&&◌, ◌||◌, [], ap, ◌∙◌}
use Rattle.sp_gates.specs.Tested.{is_on}
use Rattle.sp_gates.proofs.Growing.{Fills-join, HasNet-stays, IsOne-stays, reserved}
use Rattle.sp_gates.proofs.Running.{runs_earlier}
use Rattle.sp_sequence.proofs.Cycles.{going_on}
use Rattle.sp_sequence.proofs.Waiting.{awaits_kept}
use Rattle.sp_sequence.proofs.chains.emit_end.Goals as goal

pub on_not-requires : goal.on_not-requires
on_not-requires c = HasNet-stays _ _ _ _ c.in_ok-end.ensures.fills.grows (HasNet-stays _ _ _ _ c.in_ok-going.ensures.opens.grows (c.requires.all))

pub on_both-requires-2-clause-left : goal.on_both-requires-2-clause-left
on_both-requires-2-clause-left c = HasNet-stays _ _ _ _ c.in_ok-missing.ensures.fills.grows (HasNet-stays _ _ _ _ c.in_ok-end.ensures.fills.grows (c.in_ok-going.ensures.net))

pub on_either-requires-clause-left : goal.on_either-requires-clause-left
on_either-requires-clause-left c = HasNet-stays _ _ _ _ c.in_ok-kept.ensures.fills.grows (HasNet-stays _ _ _ _ c.in_ok-missing.ensures.fills.grows (HasNet-stays _ _ _ _ c.in_ok-end.ensures.fills.grows (HasNet-stays _ _ _ _ c.in_ok-going.ensures.opens.grows (c.requires.first))))

pub drive_after-requires-clause-net : goal.drive_after-requires-clause-net
drive_after-requires-clause-net c = awaits_kept _ _ _ _ c.in_ok-next.ensures.fills (awaits_kept _ _ _ _ c.in_ok-kept.ensures.fills (awaits_kept _ _ _ _ c.in_ok-missing.ensures.fills (awaits_kept _ _ _ _ c.in_ok-end.ensures.fills (c.in_ok-going.ensures.awaits))))

pub drive_after-requires-clause-one : goal.drive_after-requires-clause-one
drive_after-requires-clause-one c = IsOne-stays _ _ _ c.in_ok-next.ensures.fills.grows (IsOne-stays _ _ _ c.in_ok-kept.ensures.fills.grows (IsOne-stays _ _ _ c.in_ok-missing.ensures.fills.grows (IsOne-stays _ _ _ c.in_ok-end.ensures.fills.grows (IsOne-stays _ _ _ c.in_ok-going.ensures.opens.grows (c.requires.one)))))

pub returns-clause-fills : goal.returns-clause-fills
returns-clause-fills c = reserved _ _ _ _ [] c.in_ok-going.ensures.opens (Fills-join _ _ _ [] _ c.in_ok-end.ensures.fills (Fills-join _ _ _ [] _ c.in_ok-missing.ensures.fills (Fills-join _ _ _ [] _ c.in_ok-kept.ensures.fills (Fills-join _ _ _ [] _ c.in_ok-next.ensures.fills (c.in_ok-drive_after.ensures.fills)))))

pub returns-clause-net : goal.returns-clause-net
returns-clause-net c = HasNet-stays _ _ _ _ c.in_ok-drive_after.ensures.fills.grows (HasNet-stays _ _ _ _ c.in_ok-next.ensures.fills.grows (HasNet-stays _ _ _ _ c.in_ok-kept.ensures.fills.grows (HasNet-stays _ _ _ _ c.in_ok-missing.ensures.fills.grows (c.in_ok-end.ensures.net))))

pub returns-clause-end : goal.returns-clause-end
returns-clause-end c = λ s r t.
    let r_next = runs_earlier _ _ s c.in_ok-drive_after.ensures.fills.grows r in
    let r_kept = runs_earlier _ _ s c.in_ok-next.ensures.fills.grows r_next in
    let r_missing = runs_earlier _ _ s c.in_ok-kept.ensures.fills.grows r_kept in
    let r_end = runs_earlier _ _ s c.in_ok-missing.ensures.fills.grows r_missing in
    c.in_ok-end.ensures.on s r_end t
    ∙ ap (λ b. b && is_on s c.args.all t)
    (going_on (is_on s c.in_ok-going.going) (is_on s c.in_ok-next.next) (is_on s c.args.first) (is_on s c.args.all) (c.in_ok-drive_after.ensures.first s r) (c.in_ok-drive_after.ensures.later s r)
    (λ u. c.in_ok-next.ensures.on s r_next u ∙ ap (λ b. is_on s c.args.first u || b) (c.in_ok-kept.ensures.on s r_kept u ∙ ap (λ b. is_on s c.in_ok-going.going u && b) (c.in_ok-missing.ensures.on s r_missing u))) t)
