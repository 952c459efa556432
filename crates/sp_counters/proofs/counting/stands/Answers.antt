use Rattle.std.proofs.Common.{◌&&◌, [], ap, ◌∙◌, if◌then◌else◌}
use Rattle.sp_gates.specs.Tested.{is_on}
use Rattle.sp_gates.proofs.Growing.{Fills-join, HasNet-stays, IsOne-stays, reserved}
use Rattle.sp_gates.proofs.Running.{runs_earlier}
use Rattle.sp_counters.proofs.Keeping.{on_choice}
use Rattle.sp_counters.proofs.Waiting.{awaits_kept}
use Rattle.sp_counters.proofs.counting.stands.Goals as goal

pub choose-requires-clause-choice : goal.choose-requires-clause-choice
choose-requires-clause-choice c = HasNet-stays _ _ _ _ c.in_ok-kept.ensures.fills.grows (HasNet-stays _ _ _ _ c.in_ok-going.ensures.fills.grows (HasNet-stays _ _ _ _ c.in_ok-more.ensures.opens.grows (c.requires.start)))

pub choose-requires-clause-left : goal.choose-requires-clause-left
choose-requires-clause-left c = HasNet-stays _ _ _ _ c.in_ok-kept.ensures.fills.grows (HasNet-stays _ _ _ _ c.in_ok-going.ensures.fills.grows (HasNet-stays _ _ _ _ c.in_ok-more.ensures.opens.grows (c.requires.some)))

pub drive_after-requires-clause-net : goal.drive_after-requires-clause-net
drive_after-requires-clause-net c = awaits_kept _ _ _ _ c.in_ok-next.ensures.fills (awaits_kept _ _ _ _ c.in_ok-kept.ensures.fills (awaits_kept _ _ _ _ c.in_ok-going.ensures.fills (c.in_ok-more.ensures.awaits)))

pub drive_after-requires-clause-one : goal.drive_after-requires-clause-one
drive_after-requires-clause-one c = IsOne-stays _ _ _ c.in_ok-next.ensures.fills.grows (IsOne-stays _ _ _ c.in_ok-kept.ensures.fills.grows (IsOne-stays _ _ _ c.in_ok-going.ensures.fills.grows (IsOne-stays _ _ _ c.in_ok-more.ensures.opens.grows (c.requires.one))))

pub returns-clause-fills : goal.returns-clause-fills
returns-clause-fills c = reserved _ _ _ _ [] c.in_ok-more.ensures.opens (Fills-join _ _ _ [] _ c.in_ok-going.ensures.fills (Fills-join _ _ _ [] _ c.in_ok-kept.ensures.fills (Fills-join _ _ _ [] _ c.in_ok-next.ensures.fills (c.in_ok-drive_after.ensures.fills))))

pub returns-clause-net : goal.returns-clause-net
returns-clause-net c = HasNet-stays _ _ _ _ c.in_ok-drive_after.ensures.fills.grows (HasNet-stays _ _ _ _ c.in_ok-next.ensures.fills.grows (HasNet-stays _ _ _ _ c.in_ok-kept.ensures.fills.grows (HasNet-stays _ _ _ _ c.in_ok-going.ensures.fills.grows (c.in_ok-more.ensures.net))))

pub returns-clause-on : goal.returns-clause-on
returns-clause-on c = λ s r t.
    let r_next = runs_earlier _ _ s c.in_ok-drive_after.ensures.fills.grows r in
    let r_kept = runs_earlier _ _ s c.in_ok-next.ensures.fills.grows r_next in
    let r_going = runs_earlier _ _ s c.in_ok-kept.ensures.fills.grows r_kept in
    c.in_ok-drive_after.ensures.later s r t
    ∙ on_choice s c.in_ok-next.next c.args.start c.args.some c.in_ok-kept.kept t (c.in_ok-next.ensures.word s r_next t)
    ∙ ap (λ b. if is_on s c.args.start t then is_on s c.args.some t else b)
    (c.in_ok-kept.ensures.on s r_kept t ∙ ap (λ b. is_on s c.in_ok-more.more t && b) (c.in_ok-going.ensures.on s r_going t))
