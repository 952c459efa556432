use Rattle.std.proofs.Common.{◌&&◌, ◌||◌, [], ap, ap₂, ◌∙◌}
use Rattle.sp_gates.specs.Tested.{is_on}
use Rattle.sp_gates.proofs.Growing.{Fills-join, HasNet-stays, IsOne-stays, reserved}
use Rattle.sp_gates.proofs.Running.{runs_earlier}
use Rattle.sp_sequence.proofs.Cycles.{seen_since}
use Rattle.sp_sequence.proofs.Waiting.{awaits_kept}
use Rattle.sp_sequence.proofs.chains.since.Goals as goal

pub on_not-requires : goal.on_not-requires
on_not-requires c = HasNet-stays _ _ _ _ c.in_ok-now.ensures.fills.grows (HasNet-stays _ _ _ _ c.in_ok-seen.ensures.opens.grows (c.requires.first))

pub on_both-requires-clause-left : goal.on_both-requires-clause-left
on_both-requires-clause-left c = HasNet-stays _ _ _ _ c.in_ok-later.ensures.fills.grows (c.in_ok-now.ensures.net)

pub drive_after-requires-clause-net : goal.drive_after-requires-clause-net
drive_after-requires-clause-net c = awaits_kept _ _ _ _ c.in_ok-next.ensures.fills (awaits_kept _ _ _ _ c.in_ok-later.ensures.fills (awaits_kept _ _ _ _ c.in_ok-now.ensures.fills (c.in_ok-seen.ensures.awaits)))

pub drive_after-requires-clause-one : goal.drive_after-requires-clause-one
drive_after-requires-clause-one c = IsOne-stays _ _ _ c.in_ok-next.ensures.fills.grows (IsOne-stays _ _ _ c.in_ok-later.ensures.fills.grows (IsOne-stays _ _ _ c.in_ok-now.ensures.fills.grows (IsOne-stays _ _ _ c.in_ok-seen.ensures.opens.grows (c.requires.one))))

pub returns-clause-fills : goal.returns-clause-fills
returns-clause-fills c = reserved _ _ _ _ [] c.in_ok-seen.ensures.opens (Fills-join _ _ _ [] _ c.in_ok-now.ensures.fills (Fills-join _ _ _ [] _ c.in_ok-later.ensures.fills (Fills-join _ _ _ [] _ c.in_ok-next.ensures.fills (c.in_ok-drive_after.ensures.fills))))

pub returns-clause-net : goal.returns-clause-net
returns-clause-net c = HasNet-stays _ _ _ _ c.in_ok-drive_after.ensures.fills.grows (HasNet-stays _ _ _ _ c.in_ok-next.ensures.fills.grows (HasNet-stays _ _ _ _ c.in_ok-later.ensures.fills.grows (c.in_ok-now.ensures.net)))

pub returns-clause-since : goal.returns-clause-since
returns-clause-since c = λ s r t.
    let r_next = runs_earlier _ _ s c.in_ok-drive_after.ensures.fills.grows r in
    let r_later = runs_earlier _ _ s c.in_ok-next.ensures.fills.grows r_next in
    let r_now = runs_earlier _ _ s c.in_ok-later.ensures.fills.grows r_later in
    c.in_ok-now.ensures.on s r_now t
    ∙ ap (λ b. is_on s c.args.over t || b)
    (seen_since (is_on s c.in_ok-seen.seen) (is_on s c.in_ok-next.next) (is_on s c.args.first) (is_on s c.args.over) (c.in_ok-drive_after.ensures.first s r) (c.in_ok-drive_after.ensures.later s r)
    (λ u. c.in_ok-next.ensures.on s r_next u ∙ ap₂ (λ a b. a && b) (c.in_ok-now.ensures.on s r_now u) (c.in_ok-later.ensures.on s r_later u)) t)
