use Rattle.std.proofs.Common.{◌<◌, ◌≤◌, length, arith}
use Rattle.sp_core.specs.CoreParts.{plain_core}
use Rattle.sp_core.specs.Forms.{plain_forms}
use Rattle.sp_plans.specs.Parts.{IsMemRight}
use Rattle.sp_valid.proofs.Below.{one_more, some_wrong, all_right}
use Rattle.sp_valid.proofs.ByParts.{told, told_not, mem_is, mem_right}
use Rattle.sp_valid.proofs.mems.are_mems_right.Goals as goal
use Rattle.sp_valid.specs.Plans.{plan_of}

pub loop-m-init : goal.loop-m-init
loop-m-init c = λ j lt. absurd (omega (arith, lt))

pub returns-then-not-is_right : goal.returns-then-not-is_right
returns-then-not-is_right c =
    let core = plain_core c.args.core.now in
    let forms = plain_forms c.args.forms.now in
    let mems = c.args.mems.now in
    let nodes = c.args.nodes.now in
    let below : c.loop-m.m < length core.mems = omega (arith, c.loop-m-test.true, c.requires) in
    some_wrong (IsMemRight core forms c.args.meets.now (plan_of mems nodes)) (length core.mems) c.loop-m.m below
    (told_not c.is_right.result c.if-not-is_right.true
    (mem_right core forms c.args.meets.now mems nodes c.loop-m.m c.index-mems-m.result c.is_right.result
    (mem_is core forms c.args.meets.now mems nodes c.loop-m.m c.index-mems-m.result c.loop-m-test.true c.index-mems-m.is) c.is_right.ensures))

pub loop-m-preserved : goal.loop-m-preserved
loop-m-preserved c =
    let core = plain_core c.args.core.now in
    let forms = plain_forms c.args.forms.now in
    let mems = c.args.mems.now in
    let nodes = c.args.nodes.now in
    one_more (IsMemRight core forms c.args.meets.now (plan_of mems nodes)) c.loop-m.m c.loop-m.invariant
    (told c.is_right.result c.if-not-is_right.false
    (mem_right core forms c.args.meets.now mems nodes c.loop-m.m c.index-mems-m.result c.is_right.result
    (mem_is core forms c.args.meets.now mems nodes c.loop-m.m c.index-mems-m.result c.loop-m-test.true c.index-mems-m.is) c.is_right.ensures))

pub returns : goal.returns
returns c =
    let core = plain_core c.args.core.now in
    let past : length core.mems ≤ c.loop-m.m = omega (arith, c.loop-m-test.false, c.requires) in
    all_right (IsMemRight core (plain_forms c.args.forms.now) c.args.meets.now (plan_of c.args.mems.now c.args.nodes.now)) (length core.mems) c.loop-m.m past c.loop-m.invariant
