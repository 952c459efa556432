use Rattle.std.proofs.Common.{subst, sym, arith}
use Rattle.sp_gates.specs.Tested.{is_on}
use Rattle.sp_pipe.specs.Issues.{IssuesOne}
use Rattle.sp_pipe.specs.Right.{OpsFit}
use Rattle.sp_tree_circuits.proofs.WorkedBody.{both_fit, has_body}
use Rattle.sp_tree_circuits.proofs.worked.worked_circuit.Goals as goal

pub emit-requires : goal.emit-requires
emit-requires c = record {
  start = c.requires;
  groups = tt;
  ops = subst (OpsFit c.args.builder.now) (sym c.in_ok-ops.ensures.items) (both_fit _ _ c.word-first.ensures c.in_ok-second.ensures c.args.builder.now);
  interval = omega arith;
}

pub returns-clause-circuit : goal.returns-clause-circuit
returns-clause-circuit c =
    let e = c.in_ok-ends.ensures.emitted in
    has_body _ _ c.word-first.ensures c.in_ok-second.ensures c.emit.new.builder c.in_ok-ends.ends.start e.issue c.in_ok-ends.ends.done
    (λ s r. subst (λ n. IssuesOne (is_on s n) (is_on s e.issue) (is_on s c.in_ok-ends.ends.done) 1) (sym c.in_ok-ends.ensures.start) (e.issues s r))
