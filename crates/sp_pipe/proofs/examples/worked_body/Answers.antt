use Rattle.std.proofs.Common.{subst, sym, arith}
use Rattle.sp_pipe.specs.Acts.{AreActs}
use Rattle.sp_pipe.specs.Right.{OpsFit}
use Rattle.sp_pipe.proofs.Worked.{both_fit, puts_seven}
use Rattle.sp_pipe.proofs.examples.worked_body.Goals as goal

pub emit-requires : goal.emit-requires
emit-requires c = record {
  start = c.requires;
  groups = tt;
  ops = subst (OpsFit c.args.builder.now) (sym c.in_ok-ops.ensures.items) (both_fit _ c.seven-first.ensures _ c.in_ok-second.ensures c.args.builder.now);
  interval = omega arith;
}

pub returns-clause-puts : goal.returns-clause-puts
returns-clause-puts c =
    let e = c.in_ok-ends.ensures.emitted in
    puts_seven _ c.seven-first.ensures _ c.in_ok-second.ensures c.emit.new.builder c.args.start e.issue (λ s r. (e.issues s r).issued) c.in_ok-ends.ends.nets.items
    (subst (λ os. AreActs c.emit.new.builder e.issue os os c.in_ok-ends.ends.nets.items) c.in_ok-ops.ensures.items e.acts)
