use Rattle.std.proofs.Common.{◌&&◌, not, [], ap₂, ◌∙◌}
use Rattle.sp_gates.specs.Tested.{is_on}
use Rattle.sp_gates.proofs.Growing.{Fills-join, HasNet-stays, IsOne-stays}
use Rattle.sp_gates.proofs.Running.{runs_earlier}
use Rattle.sp_pipe.specs.Issues.{due}
use Rattle.sp_pipe.proofs.Cycles.{one_later, after_same, none_due, more_due}
use Rattle.sp_pipe.proofs.issue.due.Goals as goal

pub loop-cycle-init : goal.loop-cycle-init
loop-cycle-init c = record {
  fills = c.in_ok-idle.ensures.fills;
  idle_net = c.in_ok-idle.ensures.net;
  idle_on = c.in_ok-idle.ensures.on;
  net = HasNet-stays _ _ _ _ c.in_ok-idle.ensures.fills.grows c.requires.issue;
  is_due = λ s r t. none_due (is_on s c.args.start) (is_on s c.args.issue) t;
}

pub later-requires-clause-one : goal.later-requires-clause-one
later-requires-clause-one c = IsOne-stays _ _ _ c.in_ok-kept.ensures.fills.grows (IsOne-stays _ _ _ c.loop-cycle.invariant.fills.grows c.requires.one)

pub loop-cycle-preserved : goal.loop-cycle-preserved
loop-cycle-preserved c =
    let i = c.loop-cycle.invariant in
    let k = c.in_ok-kept.ensures in
    let d = c.in_ok-due.ensures in
    record {
      fills = Fills-join _ _ _ [] [] i.fills (Fills-join _ _ _ [] [] k.fills d.fills);
      idle_net = HasNet-stays _ _ _ _ d.fills.grows (HasNet-stays _ _ _ _ k.fills.grows i.idle_net);
      idle_on = λ s r. i.idle_on s (runs_earlier _ _ s k.fills.grows (runs_earlier _ _ s d.fills.grows r));
      net = d.net;
      is_due = λ s r t.
          let before = runs_earlier _ _ s d.fills.grows r in
          let first = runs_earlier _ _ s k.fills.grows before in
          d.later s r t ∙ one_later (is_on s c.in_ok-kept.kept) t
          ∙ after_same (is_on s c.in_ok-kept.kept) (λ u. due (is_on s c.args.start) (is_on s c.args.issue) c.loop-cycle._cycle u && not (is_on s c.args.start u))
          (λ u. k.on s before u ∙ ap₂ (λ a b. a && b) (i.is_due s first u) (i.idle_on s first u)) t
          ∙ more_due (is_on s c.args.start) (is_on s c.args.issue) c.loop-cycle._cycle t;
    }
