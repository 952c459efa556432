use Rattle.std.proofs.Common.{map, arith}
use Rattle.sp_meets.specs.Plain.{plain_site}
use Rattle.sp_meets.proofs.Collected.{none_among, entries_more, all_among}
use Rattle.sp_meets.proofs.collect.add_meets.Goals as goal

pub loop-a-init : goal.loop-a-init
loop-a-init c = none_among c.args.chip (map plain_site c.args.seconds.now) c.args.meets.now.items

pub loop-a-preserved : goal.loop-a-preserved
loop-a-preserved c =
    entries_more c.args.chip c.args.firsts.now c.loop-a.a-index c.a-item.result c.args.meets.now.items c.loop-a.meets.items c.add_meets_with.new.meets.items
    (omega (arith, c.loop-a-test.true)) c.a-item.is (map plain_site c.args.seconds.now) c.loop-a.invariant c.in_ok-add_meets_with.ensures

pub returns : goal.returns
returns c =
    all_among c.args.chip c.args.firsts.now c.loop-a.a-index c.args.meets.now.items c.loop-a.meets.items (omega (arith, c.loop-a-test.false)) (map plain_site c.args.seconds.now) c.loop-a.invariant
