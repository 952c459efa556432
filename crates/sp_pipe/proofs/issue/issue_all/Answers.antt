use Rattle.std.proofs.Common.{◌-◌, ◌||◌, [], ap, ◌∙◌}
use Rattle.sp_gates.specs.Tested.{is_on}
use Rattle.sp_gates.proofs.Growing.{Fills-join, HasNet-stays, IsOne-stays}
use Rattle.sp_gates.proofs.Running.{runs_earlier}
use Rattle.sp_pipe.specs.Issues.{due}
use Rattle.sp_pipe.proofs.Cycles.{after_by}
use Rattle.sp_pipe.proofs.Waiting.{awaits_kept}
use Rattle.sp_pipe.proofs.issue.issue_all.Goals as goal

pub due-requires-clause-one : goal.due-requires-clause-one
due-requires-clause-one c = IsOne-stays _ _ _ c.in_ok-issue.ensures.fills.grows c.requires.one

pub done-requires-clause-start : goal.done-requires-clause-start
done-requires-clause-start c = HasNet-stays _ _ _ _ c.in_ok-turn.ensures.fills.grows (HasNet-stays _ _ _ _ c.in_ok-due.ensures.fills.grows (HasNet-stays _ _ _ _ c.in_ok-issue.ensures.fills.grows c.requires.start))

pub done-requires-clause-more : goal.done-requires-clause-more
done-requires-clause-more c = HasNet-stays _ _ _ _ c.in_ok-turn.ensures.fills.grows (HasNet-stays _ _ _ _ c.in_ok-due.ensures.fills.grows (HasNet-stays _ _ _ _ c.in_ok-issue.ensures.fills.grows c.requires.more))

pub done-requires-clause-issue : goal.done-requires-clause-issue
done-requires-clause-issue c = HasNet-stays _ _ _ _ c.in_ok-turn.ensures.fills.grows (HasNet-stays _ _ _ _ c.in_ok-due.ensures.fills.grows c.in_ok-issue.ensures.net)

pub done-requires-clause-one : goal.done-requires-clause-one
done-requires-clause-one c = IsOne-stays _ _ _ c.in_ok-turn.ensures.fills.grows (IsOne-stays _ _ _ c.in_ok-due.ensures.fills.grows (IsOne-stays _ _ _ c.in_ok-issue.ensures.fills.grows c.requires.one))

pub drive_after-requires-clause-net : goal.drive_after-requires-clause-net
drive_after-requires-clause-net c =
    awaits_kept _ _ _ _ c.in_ok-done.ensures.fills (awaits_kept _ _ _ _ c.in_ok-turn.ensures.fills (awaits_kept _ _ _ _ c.in_ok-due.ensures.fills (awaits_kept _ _ _ _ c.in_ok-issue.ensures.fills c.requires.step)))

pub drive_after-requires-clause-next : goal.drive_after-requires-clause-next
drive_after-requires-clause-next c = HasNet-stays _ _ _ _ c.in_ok-done.ensures.fills.grows c.in_ok-turn.ensures.net

pub drive_after-requires-clause-one : goal.drive_after-requires-clause-one
drive_after-requires-clause-one c =
    IsOne-stays _ _ _ c.in_ok-done.ensures.fills.grows (IsOne-stays _ _ _ c.in_ok-turn.ensures.fills.grows (IsOne-stays _ _ _ c.in_ok-due.ensures.fills.grows (IsOne-stays _ _ _ c.in_ok-issue.ensures.fills.grows c.requires.one)))

pub returns-clause-fills : goal.returns-clause-fills
returns-clause-fills c =
    Fills-join _ _ _ [] _ c.in_ok-issue.ensures.fills (Fills-join _ _ _ [] _ c.in_ok-due.ensures.fills (Fills-join _ _ _ [] _ c.in_ok-turn.ensures.fills (Fills-join _ _ _ [] _ c.in_ok-done.ensures.fills c.in_ok-drive_after.ensures.fills)))

pub returns-clause-issue : goal.returns-clause-issue
returns-clause-issue c =
    HasNet-stays _ _ _ _ c.in_ok-drive_after.ensures.fills.grows (HasNet-stays _ _ _ _ c.in_ok-done.ensures.fills.grows (HasNet-stays _ _ _ _ c.in_ok-turn.ensures.fills.grows (HasNet-stays _ _ _ _ c.in_ok-due.ensures.fills.grows c.in_ok-issue.ensures.net)))

pub returns-clause-done : goal.returns-clause-done
returns-clause-done c = HasNet-stays _ _ _ _ c.in_ok-drive_after.ensures.fills.grows c.in_ok-done.ensures.net

pub returns-clause-issues : goal.returns-clause-issues
returns-clause-issues c = λ s r.
    let r_done = runs_earlier _ _ s c.in_ok-drive_after.ensures.fills.grows r in
    let r_turn = runs_earlier _ _ s c.in_ok-done.ensures.fills.grows r_done in
    let r_due = runs_earlier _ _ s c.in_ok-turn.ensures.fills.grows r_turn in
    let r_issue = runs_earlier _ _ s c.in_ok-due.ensures.fills.grows r_due in
    record {
      turned = λ t.
          after_by (is_on s c.args.groups.step) (is_on s c.in_ok-turn.turn) (λ u. is_on s c.args.start u || due (is_on s c.args.start) (is_on s c.in_ok-issue.issue) (c.args.interval - 1) u)
          (c.in_ok-drive_after.ensures.first s r) (c.in_ok-drive_after.ensures.later s r)
          (λ u. c.in_ok-turn.ensures.on s r_turn u ∙ ap (λ b. is_on s c.args.start u || b) (c.in_ok-due.ensures.due s r_due u)) t;
      issued = c.in_ok-issue.ensures.on s r_issue;
      ends = c.in_ok-done.ensures.ends s r_done;
    }
