use Rattle.std.proofs.Common.{length, sym, ltb-true}
use Rattle.sp_plan.proofs.NamedAt.{op_found}
use Rattle.sp_plan.proofs.named.op_named.Goals as goal

pub returns-in-Some : goal.returns-in-Some
returns-in-Some c = op_found c.args.ops.now c.args.n c.in-Some.op.now c.in-Some.op.now (ltb-true c.args.n (length c.args.ops.now) (sym c.in-Some.ensures.lookup.0)) c.in-Some.ensures.lookup.1
