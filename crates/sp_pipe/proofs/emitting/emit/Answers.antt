use Rattle.std.proofs.Common.{[], subst}
use Rattle.std.proofs.lemmas.List.{append-nil}
use Rattle.sp_gates.specs.Grows.{Fills}
use Rattle.sp_gates.proofs.Growing.{Fills-join, HasNet-stays, IsOne-stays}
use Rattle.sp_gates.proofs.Running.{runs_earlier}
use Rattle.sp_pipe.specs.Acts.{AreActs}
use Rattle.sp_pipe.specs.Emitted.{driven_of}
use Rattle.sp_pipe.proofs.Kept.{ops_fit_kept}
use Rattle.sp_pipe.proofs.Waiting.{groups_kept}
use Rattle.sp_pipe.proofs.emitting.emit.Goals as goal

pub issue_groups-requires-clause-start : goal.issue_groups-requires-clause-start
issue_groups-requires-clause-start c = HasNet-stays _ _ _ _ c.in_ok-always.ensures.fills.grows c.requires.start

pub issue_groups-requires-clause-groups : goal.issue_groups-requires-clause-groups
issue_groups-requires-clause-groups c = groups_kept _ _ _ c.in_ok-always.ensures.fills c.requires.groups

pub emit_ops-requires-clause-fits : goal.emit_ops-requires-clause-fits
emit_ops-requires-clause-fits c = rw c.deref.ensures.value (ops_fit_kept _ _ c.in_ok-issue.ensures.fills.grows _ (ops_fit_kept _ _ c.in_ok-always.ensures.fills.grows _ c.requires.ops))

pub emit_ops-requires-clause-one : goal.emit_ops-requires-clause-one
emit_ops-requires-clause-one c = IsOne-stays _ _ _ c.in_ok-issue.ensures.fills.grows c.in_ok-always.ensures.one

pub returns-clause-fills : goal.returns-clause-fills
returns-clause-fills c =
    subst (λ ns. Fills c.args.builder.now c.emit_ops.new.builder ns) (append-nil (driven_of c.args.part.now.groups))
    (Fills-join _ _ _ [] _ c.in_ok-always.ensures.fills (Fills-join _ _ _ (driven_of c.args.part.now.groups) [] c.in_ok-issue.ensures.fills c.in_ok-operations.ensures.fills))

pub returns-clause-emitted : goal.returns-clause-emitted
returns-clause-emitted c =
    let e = c.in_ok-operations.ensures.fills.grows in
    record {
      issue = c.in_ok-issue.issue.issue;
      issue_net = HasNet-stays _ _ _ _ e c.in_ok-issue.ensures.issue;
      done_net = HasNet-stays _ _ _ _ e c.in_ok-issue.ensures.done;
      issues = λ s r. c.in_ok-issue.ensures.issues s (runs_earlier _ _ s e r);
      acts = subst (λ os. AreActs c.emit_ops.new.builder c.in_ok-issue.issue.issue os os c.in_ok-operations.operations.nets.items) c.deref.ensures.value c.in_ok-operations.ensures.acts;
    }
