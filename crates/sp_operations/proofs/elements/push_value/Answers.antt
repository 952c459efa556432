use Rattle.std.proofs.Common.{length, map, arith}
use Rattle.std.proofs.lemmas.Grind.{common_steps}
use Rattle.sp_core.specs.Plain.{plain_ops}
use Rattle.sp_tree.specs.Plain.{plain_mem}
use Rattle.sp_operations.proofs.ElementLemmas.{value_is}
use Rattle.sp_operations.proofs.elements.push_value.Goals as goal

pub returns-clause-ops : goal.returns-clause-ops
returns-clause-ops c =
    rw (value_is (map plain_mem c.args.mems.now) (length (plain_ops c.args.ops.now.items)) c.args.counter c.args.dims.now c.args.part c.args.ty) (grind (arith, common_steps))

pub returns-clause-word : goal.returns-clause-word
returns-clause-word c =
    rw (value_is (map plain_mem c.args.mems.now) (length (plain_ops c.args.ops.now.items)) c.args.counter c.args.dims.now c.args.part c.args.ty) (grind (arith, common_steps))
