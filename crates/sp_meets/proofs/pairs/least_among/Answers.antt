use Rattle.std.proofs.Common.{arith}
use Rattle.std.specs.Prelude.{flat_map}
use Rattle.sp_meets.specs.Plain.{plain_parts, plain_view}
use Rattle.sp_meets.proofs.PairLemmas.{first_more, all_firsts}
use Rattle.sp_meets.proofs.pairs.least_among.Goals as goal

pub loop-p-preserved : goal.loop-p-preserved
loop-p-preserved c =
    first_more c.args.chip (plain_view c.args.v.now) (plain_view c.args.w.now) c.args.before c.args.parts.now c.loop-p.p-index c.p-item.result c.loop-p.best c.in_ok-found.found c.sooner-best.result
    (omega (arith, c.loop-p-test.true)) c.p-item.is c.sooner-best.ensures (flat_map plain_parts c.args.others.now) c.loop-p.invariant c.in_ok-found.ensures

pub returns : goal.returns
returns c =
    all_firsts c.args.chip (plain_view c.args.v.now) (plain_view c.args.w.now) c.args.before c.args.parts.now c.loop-p.p-index c.loop-p.best
    (omega (arith, c.loop-p-test.false)) (flat_map plain_parts c.args.others.now) c.loop-p.invariant
