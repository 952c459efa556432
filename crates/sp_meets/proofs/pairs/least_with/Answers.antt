use Rattle.std.proofs.Common.{arith}
use Rattle.sp_meets.specs.Plain.{plain_parts, plain_view}
use Rattle.sp_meets.proofs.Leasts.{none_meet}
use Rattle.sp_meets.proofs.PairLemmas.{other_more, all_others}
use Rattle.sp_meets.proofs.pairs.least_with.Goals as goal

pub loop-q-init : goal.loop-q-init
loop-q-init c = λ k. none_meet c.args.chip (plain_view c.args.v.now) (plain_view c.args.w.now) c.args.before (plain_parts c.args.p.now) k

pub loop-q-preserved : goal.loop-q-preserved
loop-q-preserved c =
    other_more c.args.chip (plain_view c.args.v.now) (plain_view c.args.w.now) c.args.before c.args.others.now c.loop-q.q-index c.q-item.result c.loop-q.best c.in_ok-found.found c.sooner-best.result
    (omega (arith, c.loop-q-test.true)) c.q-item.is c.sooner-best.ensures (plain_parts c.args.p.now) c.loop-q.invariant c.in_ok-found.ensures

pub returns : goal.returns
returns c =
    all_others c.args.chip (plain_view c.args.v.now) (plain_view c.args.w.now) c.args.before c.args.others.now c.loop-q.q-index c.loop-q.best
    (omega (arith, c.loop-q-test.false)) (plain_parts c.args.p.now) c.loop-q.invariant
