use Rattle.std.proofs.Common.{IfOk, sym, subst}
use Rattle.sp_gates.specs.Runs.{RunsOn}
use Rattle.sp_netlist.specs.Signals.{Signals}
use Rattle.sp_pipe.specs.Issues.{Issues}
use Rattle.sp_pipe.proofs.issue.issue_groups.Goals as goal

pub returns-in-Some-clause-issues : goal.returns-in-Some-clause-issues
returns-in-Some-clause-issues c =
    subst (λ g. IfOk c.issue_all.result (λ nets. (s : Signals) → RunsOn s c.issue_all.new.builder.cells → Issues g s c.args.start nets.issue nets.done c.args.interval c.args.latency)) (sym c.in-Some.is) c.issue_all.ensures.issues
