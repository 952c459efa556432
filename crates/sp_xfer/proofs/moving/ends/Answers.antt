use Rattle.std.proofs.Common.{[], ◌&&◌, ◌||◌, ap, ap₂, ◌∙◌}
use Rattle.sp_gates.proofs.Growing.{Fills-join, HasNet-stays, IsOne-stays}
use Rattle.sp_gates.proofs.Running.{runs_earlier}
use Rattle.sp_gates.specs.Tested.{is_on}
use Rattle.sp_mem.proofs.Waiting.{awaits_kept}
use Rattle.sp_xfer.proofs.Keeping.{was_on, was_same}
use Rattle.sp_xfer.proofs.moving.ends.Goals as goal

pub on_not-requires : goal.on_not-requires
on_not-requires c = HasNet-stays _ _ _ _ c.in_ok-over.ensures.fills.grows (c.requires.more)

pub on_both-requires-2-clause-left : goal.on_both-requires-2-clause-left
on_both-requires-2-clause-left c = HasNet-stays _ _ _ _ c.in_ok-none.ensures.fills.grows (HasNet-stays _ _ _ _ c.in_ok-over.ensures.fills.grows (c.requires.begun))

pub on_either-requires-clause-left : goal.on_either-requires-clause-left
on_either-requires-clause-left c = HasNet-stays _ _ _ _ c.in_ok-empty.ensures.fills.grows (HasNet-stays _ _ _ _ c.in_ok-none.ensures.fills.grows (c.in_ok-over.ensures.net))

pub drive_after-requires-clause-net : goal.drive_after-requires-clause-net
drive_after-requires-clause-net c = awaits_kept _ _ _ 1 c.in_ok-either.ensures.fills (awaits_kept _ _ _ 1 c.in_ok-empty.ensures.fills (awaits_kept _ _ _ 1 c.in_ok-none.ensures.fills (awaits_kept _ _ _ 1 c.in_ok-over.ensures.fills c.requires.done)))

pub drive_after-requires-clause-one : goal.drive_after-requires-clause-one
drive_after-requires-clause-one c = IsOne-stays _ _ _ c.in_ok-either.ensures.fills.grows (IsOne-stays _ _ _ c.in_ok-empty.ensures.fills.grows (IsOne-stays _ _ _ c.in_ok-none.ensures.fills.grows (IsOne-stays _ _ _ c.in_ok-over.ensures.fills.grows c.requires.one)))

pub returns-clause-fills : goal.returns-clause-fills
returns-clause-fills c = Fills-join _ _ _ [] _ c.in_ok-over.ensures.fills (Fills-join _ _ _ [] _ c.in_ok-none.ensures.fills (Fills-join _ _ _ [] _ c.in_ok-empty.ensures.fills (Fills-join _ _ _ [] _ c.in_ok-either.ensures.fills c.in_ok-drive_after.ensures.fills)))

pub returns-clause-on : goal.returns-clause-on
returns-clause-on c = λ s r t.
    let r_either = runs_earlier _ _ s c.in_ok-drive_after.ensures.fills.grows r in
    let r_empty = runs_earlier _ _ s c.in_ok-either.ensures.fills.grows r_either in
    let r_none = runs_earlier _ _ s c.in_ok-empty.ensures.fills.grows r_empty in
    let r_over = runs_earlier _ _ s c.in_ok-none.ensures.fills.grows r_none in
    was_on (is_on s c.args.done) (is_on s c.in_ok-either.either) (c.in_ok-drive_after.ensures.first s r) (c.in_ok-drive_after.ensures.later s r) t
    ∙ was_same (is_on s c.in_ok-either.either) _ (λ u. c.in_ok-either.ensures.on s r_either u ∙ ap₂ (λ a b. a || b) (c.in_ok-over.ensures.on s r_over u) (c.in_ok-empty.ensures.on s r_empty u ∙ ap (λ b. is_on s c.args.begun u && b) (c.in_ok-none.ensures.on s r_none u))) t
