use Rattle.std.proofs.Common.{◌&&◌, ◌||◌, not, [], ap, ap₂, ◌∙◌}
use Rattle.sp_gates.specs.Tested.{is_on}
use Rattle.sp_gates.proofs.Growing.{Fills-join, HasNet-stays, IsOne-stays}
use Rattle.sp_gates.proofs.Running.{runs_earlier}
use Rattle.sp_pipe.specs.Issues.{after}
use Rattle.sp_pipe.proofs.Cycles.{later_same, one_later}
use Rattle.sp_pipe.proofs.issue.end.Goals as goal

pub later-requires-clause-one : goal.later-requires-clause-one
later-requires-clause-one c = IsOne-stays _ _ _ c.in_ok-none.ensures.fills.grows (IsOne-stays _ _ _ c.in_ok-over.ensures.fills.grows c.requires.one)

pub on_both-requires-2-clause-right : goal.on_both-requires-2-clause-right
on_both-requires-2-clause-right c = HasNet-stays _ _ _ _ c.in_ok-issued.ensures.fills.grows (HasNet-stays _ _ _ _ c.in_ok-none.ensures.fills.grows c.in_ok-over.ensures.net)

pub later-requires-2-clause-one : goal.later-requires-2-clause-one
later-requires-2-clause-one c =
    IsOne-stays _ _ _ c.in_ok-last.ensures.fills.grows (IsOne-stays _ _ _ c.in_ok-issued.ensures.fills.grows (IsOne-stays _ _ _ c.in_ok-none.ensures.fills.grows (IsOne-stays _ _ _ c.in_ok-over.ensures.fills.grows c.requires.one)))

pub on_either-requires-clause-left : goal.on_either-requires-clause-left
on_either-requires-clause-left c = HasNet-stays _ _ _ _ c.in_ok-late.ensures.fills.grows (HasNet-stays _ _ _ _ c.in_ok-last.ensures.fills.grows (HasNet-stays _ _ _ _ c.in_ok-issued.ensures.fills.grows c.in_ok-none.ensures.net))

pub returns-clause-fills : goal.returns-clause-fills
returns-clause-fills c =
    Fills-join _ _ _ [] [] c.in_ok-over.ensures.fills (Fills-join _ _ _ [] [] c.in_ok-none.ensures.fills (Fills-join _ _ _ [] [] c.in_ok-issued.ensures.fills
    (Fills-join _ _ _ [] [] c.in_ok-last.ensures.fills (Fills-join _ _ _ [] [] c.in_ok-late.ensures.fills c.in_ok-net.ensures.fills))))

pub returns-clause-end : goal.returns-clause-end
returns-clause-end c = λ s r t.
    let r_late = runs_earlier _ _ s c.in_ok-net.ensures.fills.grows r in
    let r_last = runs_earlier _ _ s c.in_ok-late.ensures.fills.grows r_late in
    let r_issued = runs_earlier _ _ s c.in_ok-last.ensures.fills.grows r_last in
    let r_none = runs_earlier _ _ s c.in_ok-issued.ensures.fills.grows r_issued in
    let r_over = runs_earlier _ _ s c.in_ok-none.ensures.fills.grows r_none in
    let over = c.in_ok-over.ensures.on s r_over in
    c.in_ok-net.ensures.on s r t
    ∙ ap₂ (λ a b. a || b)
    (c.in_ok-none.ensures.on s r_none t ∙ ap (λ b. is_on s c.args.begun t && b) (over t))
    (c.in_ok-late.ensures.later s r_late t
    ∙ later_same c.args.cycles (is_on s c.in_ok-last.last) (λ u. after (is_on s c.args.issue) u && not (is_on s c.args.more u))
    (λ u. c.in_ok-last.ensures.on s r_last u ∙ ap₂ (λ a b. a && b) (c.in_ok-issued.ensures.later s r_issued u ∙ one_later (is_on s c.args.issue) u) (over u)) t)
