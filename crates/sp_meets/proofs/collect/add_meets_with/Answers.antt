use Rattle.std.proofs.Common.{arith}
use Rattle.sp_meets.specs.Plain.{plain_site}
use Rattle.sp_meets.proofs.Collected.{none_with, entry_more, all_with}
use Rattle.sp_meets.proofs.collect.add_meets_with.Goals as goal

pub loop-b-init : goal.loop-b-init
loop-b-init c = none_with c.args.chip (plain_site c.args.a.now) c.args.meets.now.items

pub loop-b-preserved : goal.loop-b-preserved
loop-b-preserved c =
    entry_more c.args.chip c.args.others.now c.loop-b.b-index c.b-item.result c.args.meets.now.items c.loop-b.meets.items c.add_entry.new.meets.items
    (omega (arith, c.loop-b-test.true)) c.b-item.is (plain_site c.args.a.now) c.in_ok-least.least c.loop-b.invariant c.in_ok-least.ensures c.in_ok-add_entry.ensures

pub returns : goal.returns
returns c =
    all_with c.args.chip c.args.others.now c.loop-b.b-index c.args.meets.now.items c.loop-b.meets.items (omega (arith, c.loop-b-test.false)) (plain_site c.args.a.now) c.loop-b.invariant
