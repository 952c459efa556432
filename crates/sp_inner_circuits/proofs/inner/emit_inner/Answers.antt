use Rattle.std.proofs.Common.{List, sym, subst}
use Rattle.sp_core.specs.CoreParts.{plain_core}
use Rattle.sp_core.specs.Plain.{plain_ops}
use Rattle.sp_core.specs.PlainCore.{PlainCounter}
use Rattle.sp_plan.specs.Plain.{plain_node_plan}
use Rattle.sp_inner_circuits.specs.Inner.{IsInner, IsInnerActed}
use Rattle.sp_inner_circuits.proofs.Grouping.{no_plain}
use Rattle.sp_inner_circuits.proofs.inner.emit_inner.Goals as goal

pub returns-then-is_empty-clause-inner : goal.returns-then-is_empty-clause-inner
returns-then-is_empty-clause-inner c =
    subst
    (λ (cs : List PlainCounter). IsInner c.args.builder.now c.emit_single.new.builder (plain_core c.args.core.now) c.args.around.now (plain_node_plan c.args.plan.now) c.args.number cs (plain_ops c.args.ops.now) c.in_ok-inner.inner.child c.in_ok-inner.inner.acted.items)
    (sym (no_plain c.args.counters.now c.if-is_empty.ensures)) c.in_ok-inner.ensures.inner

pub returns-then-is_empty-clause-acted : goal.returns-then-is_empty-clause-acted
returns-then-is_empty-clause-acted c =
    subst (λ (cs : List PlainCounter). IsInnerActed c.emit_single.new.builder (plain_core c.args.core.now) c.args.number cs (plain_ops c.args.ops.now) c.in_ok-inner.inner.acted.items) (sym (no_plain c.args.counters.now c.if-is_empty.ensures)) c.in_ok-inner.ensures.acted
