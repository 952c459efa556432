use Rattle.std.proofs.Common.{◌&&◌, ◌||◌, [], ap, ap₂, ◌∙◌}
use Rattle.sp_gates.specs.Tested.{is_on}
use Rattle.sp_gates.proofs.Growing.{Fills-join, HasNet-stays, IsOne-stays, reserved}
use Rattle.sp_gates.proofs.Running.{runs_earlier}
use Rattle.sp_sequence.proofs.Waiting.{awaits_kept}
use Rattle.sp_beats.proofs.Keeping.{keeps}
use Rattle.sp_beats.proofs.slots.keep_group.Goals as goal

pub on_either-requires-clause-left : goal.on_either-requires-clause-left
on_either-requires-clause-left c = HasNet-stays _ _ _ _ c.in_ok-old.ensures.fills.grows (HasNet-stays _ _ _ _ c.in_ok-still.ensures.fills.grows (c.in_ok-new.ensures.net))

pub on_not-requires-2 : goal.on_not-requires-2
on_not-requires-2 c = HasNet-stays _ _ _ _ c.in_ok-some.ensures.fills.grows (HasNet-stays _ _ _ _ c.in_ok-old.ensures.fills.grows (HasNet-stays _ _ _ _ c.in_ok-still.ensures.fills.grows (HasNet-stays _ _ _ _ c.in_ok-new.ensures.fills.grows (HasNet-stays _ _ _ _ c.in_ok-has.ensures.opens.grows (c.requires.start)))))

pub on_both-requires-3-clause-left : goal.on_both-requires-3-clause-left
on_both-requires-3-clause-left c = HasNet-stays _ _ _ _ c.in_ok-stays.ensures.fills.grows (c.in_ok-some.ensures.net)

pub drive_after-requires-clause-net : goal.drive_after-requires-clause-net
drive_after-requires-clause-net c = awaits_kept _ _ _ _ c.in_ok-next.ensures.fills (awaits_kept _ _ _ _ c.in_ok-stays.ensures.fills (awaits_kept _ _ _ _ c.in_ok-some.ensures.fills (awaits_kept _ _ _ _ c.in_ok-old.ensures.fills (awaits_kept _ _ _ _ c.in_ok-still.ensures.fills (awaits_kept _ _ _ _ c.in_ok-new.ensures.fills (c.in_ok-has.ensures.awaits))))))

pub drive_after-requires-clause-one : goal.drive_after-requires-clause-one
drive_after-requires-clause-one c = IsOne-stays _ _ _ c.in_ok-next.ensures.fills.grows (IsOne-stays _ _ _ c.in_ok-stays.ensures.fills.grows (IsOne-stays _ _ _ c.in_ok-some.ensures.fills.grows (IsOne-stays _ _ _ c.in_ok-old.ensures.fills.grows (IsOne-stays _ _ _ c.in_ok-still.ensures.fills.grows (IsOne-stays _ _ _ c.in_ok-new.ensures.fills.grows (IsOne-stays _ _ _ c.in_ok-has.ensures.opens.grows (c.requires.one)))))))

pub returns-clause-fills : goal.returns-clause-fills
returns-clause-fills c = reserved _ _ _ _ [] c.in_ok-has.ensures.opens (Fills-join _ _ _ [] _ c.in_ok-new.ensures.fills (Fills-join _ _ _ [] _ c.in_ok-still.ensures.fills (Fills-join _ _ _ [] _ c.in_ok-old.ensures.fills (Fills-join _ _ _ [] _ c.in_ok-some.ensures.fills (Fills-join _ _ _ [] _ c.in_ok-stays.ensures.fills (Fills-join _ _ _ [] _ c.in_ok-next.ensures.fills (c.in_ok-drive_after.ensures.fills)))))))

pub returns-clause-net : goal.returns-clause-net
returns-clause-net c = HasNet-stays _ _ _ _ c.in_ok-drive_after.ensures.fills.grows (HasNet-stays _ _ _ _ c.in_ok-next.ensures.fills.grows (HasNet-stays _ _ _ _ c.in_ok-stays.ensures.fills.grows (HasNet-stays _ _ _ _ c.in_ok-some.ensures.fills.grows (HasNet-stays _ _ _ _ c.in_ok-old.ensures.fills.grows (HasNet-stays _ _ _ _ c.in_ok-still.ensures.fills.grows (HasNet-stays _ _ _ _ c.in_ok-new.ensures.fills.grows (c.in_ok-has.ensures.net)))))))

pub returns-clause-has : goal.returns-clause-has
returns-clause-has c = λ s r t.
    let r_next = runs_earlier _ _ s c.in_ok-drive_after.ensures.fills.grows r in
    let r_stays = runs_earlier _ _ s c.in_ok-next.ensures.fills.grows r_next in
    let r_some = runs_earlier _ _ s c.in_ok-stays.ensures.fills.grows r_stays in
    let r_old = runs_earlier _ _ s c.in_ok-some.ensures.fills.grows r_some in
    let r_still = runs_earlier _ _ s c.in_ok-old.ensures.fills.grows r_old in
    let r_new = runs_earlier _ _ s c.in_ok-still.ensures.fills.grows r_still in
    keeps (is_on s c.in_ok-has.has) (is_on s c.in_ok-next.next) (is_on s c.args.start) (is_on s c.args.step) (is_on s c.args.comes) (c.in_ok-drive_after.ensures.first s r) (c.in_ok-drive_after.ensures.later s r)
    (λ u. c.in_ok-next.ensures.on s r_next u
    ∙ ap₂ (λ a b. a && b)
    (c.in_ok-some.ensures.on s r_some u ∙ ap₂ (λ a b. a || b) (c.in_ok-new.ensures.on s r_new u) (c.in_ok-old.ensures.on s r_old u ∙ ap (λ b. b && is_on s c.in_ok-has.has u) (c.in_ok-still.ensures.on s r_still u)))
    (c.in_ok-stays.ensures.on s r_stays u)) t
