use Rattle.std.proofs.Common.{[], ◌∙◌, arith}
use Rattle.sp_gates.specs.Tested.{is_on}
use Rattle.sp_gates.proofs.Growing.{Fills-join, IsOne-stays}
use Rattle.sp_gates.proofs.Running.{runs_earlier}
use Rattle.sp_pipe.proofs.Cycles.{end_at_once, end_later}
use Rattle.sp_pipe.proofs.issue.done.Goals as goal

pub end-requires-clause-one : goal.end-requires-clause-one
end-requires-clause-one c = IsOne-stays _ _ _ c.in_ok-begun.ensures.fills.grows c.requires.one

pub returns-then-latency-eq0-clause-ends : goal.returns-then-latency-eq0-clause-ends
returns-then-latency-eq0-clause-ends c = λ s r t. c.in_ok-begun.ensures.later s r t ∙ end_at_once (is_on s c.args.start) (is_on s c.args.more) (is_on s c.args.issue) c.args.latency c.if-latency-eq0.true t

pub returns-in_ok-net-clause-fills : goal.returns-in_ok-net-clause-fills
returns-in_ok-net-clause-fills c = Fills-join _ _ _ [] [] c.in_ok-begun.ensures.fills c.in_ok-net.ensures.fills

pub returns-in_ok-net-clause-ends : goal.returns-in_ok-net-clause-ends
returns-in_ok-net-clause-ends c = λ s r t.
    let before = runs_earlier _ _ s c.in_ok-net.ensures.fills.grows r in
    let some = c.if-latency-eq0.false in
    c.in_ok-net.ensures.end s r t ∙ end_later (is_on s c.args.start) (is_on s c.args.more) (is_on s c.args.issue) (is_on s c.in_ok-begun.begun t) c.args.latency (omega (arith, some)) t (c.in_ok-begun.ensures.later s before t)
