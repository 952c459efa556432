use Rattle.std.proofs.Common.{[]}
use Rattle.sp_gates.proofs.Growing.{Fills-join, IsOne-stays}
use Rattle.sp_gates.proofs.Running.{runs_earlier}
use Rattle.sp_list_circuits.proofs.Issuing.{issues_one}
use Rattle.sp_list_circuits.proofs.issue.issue_list.Goals as goal

pub delay-requires-2-clause-one : goal.delay-requires-2-clause-one
delay-requires-2-clause-one c = IsOne-stays _ _ _ c.in_ok-issue.ensures.fills.grows c.in_ok-always.ensures.one

pub returns-clause-fills : goal.returns-clause-fills
returns-clause-fills c = Fills-join _ _ _ [] [] c.in_ok-always.ensures.fills (Fills-join _ _ _ [] [] c.in_ok-issue.ensures.fills c.in_ok-done.ensures.fills)

pub returns-clause-issues : goal.returns-clause-issues
returns-clause-issues c = λ s r.
    let earlier = runs_earlier _ _ s c.in_ok-done.ensures.fills.grows r in
    let i = c.in_ok-issue.ensures in
    let d = c.in_ok-done.ensures in
    issues_one s c.args.start c.in_ok-issue.issue c.in_ok-done.done c.args.cycles (i.later s earlier) (i.before s earlier) (d.later s r) (d.before s r)
