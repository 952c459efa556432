use Rattle.std.proofs.Common.{[], ◌∙◌}
use Rattle.sp_gates.specs.Tested.{is_on}
use Rattle.sp_gates.proofs.Growing.{Fills-join, IsOne-stays}
use Rattle.sp_gates.proofs.Running.{runs_earlier}
use Rattle.sp_pipe.proofs.Cycles.{one_later}
use Rattle.sp_pipe.proofs.issue.issue_one.Goals as goal

pub later-requires-2-clause-one : goal.later-requires-2-clause-one
later-requires-2-clause-one c = IsOne-stays _ _ _ c.in_ok-issue.ensures.fills.grows c.requires.one

pub returns-clause-fills : goal.returns-clause-fills
returns-clause-fills c = Fills-join _ _ _ [] [] c.in_ok-issue.ensures.fills c.in_ok-done.ensures.fills

pub returns-clause-issues : goal.returns-clause-issues
returns-clause-issues c = λ s r. record {
  issued = λ t. c.in_ok-issue.ensures.later s (runs_earlier _ _ s c.in_ok-done.ensures.fills.grows r) t ∙ one_later (is_on s c.args.start) t;
  ends = c.in_ok-done.ensures.later s r;
}
