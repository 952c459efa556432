use Rattle.std.proofs.Common.{◌≡◌, ◌<◌, get_or, length, arith}
use Rattle.std.proofs.lemmas.Grind.{common_steps}
use Rattle.sp_tree.specs.Plain.{plain_mem}
use Rattle.sp_sugar.specs.Numbers.{is_on_dram}
use Rattle.sp_operations.proofs.NumberLemmas.{one_more}
use Rattle.sp_operations.proofs.numbers.dram_number.Goals as goal

pub loop-i-preserved : goal.loop-i-preserved
loop-i-preserved c =
    let within : c.loop-i.i < length c.args.mems.now = grind (arith, common_steps) in
    let found : c.in-Some.mem.now ≡ get_or c.args.mems.now c.loop-i.i c.in-Some.mem.now = grind (arith, common_steps) in
    let step = one_more is_on_dram plain_mem c.args.mems.now c.loop-i.i c.in-Some.mem.now within found in
    record { counted = cc; bound = omega arith }
