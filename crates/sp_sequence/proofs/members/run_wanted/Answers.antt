use Rattle.std.proofs.Common.{◌&&◌, ◌||◌, [], ap, ◌∙◌}
use Rattle.sp_gates.specs.Tested.{is_on}
use Rattle.sp_gates.proofs.Growing.{Fills-join, HasNet-stays, IsOne-stays}
use Rattle.sp_gates.proofs.Running.{runs_earlier}
use Rattle.sp_sequence.proofs.Cycles.{is_after}
use Rattle.sp_sequence.proofs.Waiting.{awaits_kept}
use Rattle.sp_sequence.proofs.members.run_wanted.Goals as goal

pub passed-requires-clause-cause : goal.passed-requires-clause-cause
passed-requires-clause-cause c = HasNet-stays _ _ _ _ c.in_ok-go.ensures.fills.grows (c.requires.cause)

pub passed-requires-clause-wanted : goal.passed-requires-clause-wanted
passed-requires-clause-wanted c = HasNet-stays _ _ _ _ c.in_ok-go.ensures.fills.grows (c.requires.wanted)

pub passed-requires-clause-one : goal.passed-requires-clause-one
passed-requires-clause-one c = IsOne-stays _ _ _ c.in_ok-go.ensures.fills.grows (c.requires.one)

pub on_either-requires-clause-left : goal.on_either-requires-clause-left
on_either-requires-clause-left c = HasNet-stays _ _ _ _ c.in_ok-skipped.ensures.fills.grows (HasNet-stays _ _ _ _ c.in_ok-go.ensures.fills.grows (c.requires.done))

pub drive_after-requires-clause-net : goal.drive_after-requires-clause-net
drive_after-requires-clause-net c = awaits_kept _ _ _ _ c.in_ok-over.ensures.fills (awaits_kept _ _ _ _ c.in_ok-skipped.ensures.fills (awaits_kept _ _ _ _ c.in_ok-go.ensures.fills (c.requires.start)))

pub drive_after-requires-clause-next : goal.drive_after-requires-clause-next
drive_after-requires-clause-next c = HasNet-stays _ _ _ _ c.in_ok-over.ensures.fills.grows (HasNet-stays _ _ _ _ c.in_ok-skipped.ensures.fills.grows (c.in_ok-go.ensures.net))

pub drive_after-requires-clause-one : goal.drive_after-requires-clause-one
drive_after-requires-clause-one c = IsOne-stays _ _ _ c.in_ok-over.ensures.fills.grows (IsOne-stays _ _ _ c.in_ok-skipped.ensures.fills.grows (IsOne-stays _ _ _ c.in_ok-go.ensures.fills.grows (c.requires.one)))

pub returns-clause-fills : goal.returns-clause-fills
returns-clause-fills c = Fills-join _ _ _ [] _ c.in_ok-go.ensures.fills (Fills-join _ _ _ [] _ c.in_ok-skipped.ensures.fills (Fills-join _ _ _ [] _ c.in_ok-over.ensures.fills (c.in_ok-drive_after.ensures.fills)))

pub returns-clause-net : goal.returns-clause-net
returns-clause-net c = HasNet-stays _ _ _ _ c.in_ok-drive_after.ensures.fills.grows (c.in_ok-over.ensures.net)

pub returns-clause-starts : goal.returns-clause-starts
returns-clause-starts c = λ s r.
    let r_over = runs_earlier _ _ s c.in_ok-drive_after.ensures.fills.grows r in
    let r_skipped = runs_earlier _ _ s c.in_ok-over.ensures.fills.grows r_over in
    let r_go = runs_earlier _ _ s c.in_ok-skipped.ensures.fills.grows r_skipped in
    is_after (is_on s c.args.child.now.start) (is_on s c.in_ok-go.go) (λ t. is_on s c.args.cause t && is_on s c.args.wanted t) (c.in_ok-drive_after.ensures.first s r) (c.in_ok-drive_after.ensures.later s r) (c.in_ok-go.ensures.on s r_go)

pub returns-clause-over : goal.returns-clause-over
returns-clause-over c = λ s r t.
    let r_over = runs_earlier _ _ s c.in_ok-drive_after.ensures.fills.grows r in
    let r_skipped = runs_earlier _ _ s c.in_ok-over.ensures.fills.grows r_over in
    c.in_ok-over.ensures.on s r_over t ∙ ap (λ b. is_on s c.args.child.now.done t || b) (c.in_ok-skipped.ensures.passed s r_skipped t)
