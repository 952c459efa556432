use Rattle.std.proofs.Common.{arith, ap, ◌∙◌}
use Rattle.std.proofs.lemmas.Grind.{common_steps}
use Rattle.sp_tree.specs.PlainTree.{plain_ctl}
use Rattle.sp_counts.proofs.TreeLemmas.{plain_block, plain_foreach, plain_reduce, plain_mem_reduce, plain_fsm, plain_branch}
use Rattle.sp_counts.proofs.stages.+add_body_uses.Goals as goal

pub add_ctl_uses-returns-in-Block : goal.add_ctl_uses-returns-in-Block
add_ctl_uses-returns-in-Block t c =
    let e = ap plain_ctl c.in-Block.is ∙ plain_block c.in-Block.style c.in-Block.body in
    rw e (grind (arith, common_steps))

pub add_ctl_uses-returns-in-Foreach : goal.add_ctl_uses-returns-in-Foreach
add_ctl_uses-returns-in-Foreach t c =
    let e = ap plain_ctl c.in-Foreach.is ∙ plain_foreach c.in-Foreach.style c.in-Foreach.counters c.in-Foreach.body in
    rw e (grind (arith, common_steps))

pub add_ctl_uses-returns-in_ok-of_expr-in-Reduce : goal.add_ctl_uses-returns-in_ok-of_expr-in-Reduce
add_ctl_uses-returns-in_ok-of_expr-in-Reduce t c =
    let e = ap plain_ctl c.in-Reduce.is ∙ plain_reduce c.in-Reduce.style c.in-Reduce.fold c.in-Reduce.acc c.in-Reduce.counters c.in-Reduce.body c.in-Reduce.value c.in-Reduce.comb in
    rw e (grind (arith, common_steps))

pub add_ctl_uses-returns-in_ok-push-in-MemReduce-2 : goal.add_ctl_uses-returns-in_ok-push-in-MemReduce-2
add_ctl_uses-returns-in_ok-push-in-MemReduce-2 t c =
    let e = ap plain_ctl c.in-MemReduce.is ∙ plain_mem_reduce c.in-MemReduce.style c.in-MemReduce.acc c.in-MemReduce.counters c.in-MemReduce.body c.in-MemReduce.part c.in-MemReduce.comb in
    rw e (grind (arith, common_steps))

pub add_ctl_uses-returns-in_ok-add_uses-in-Fsm : goal.add_ctl_uses-returns-in_ok-add_uses-in-Fsm
add_ctl_uses-returns-in_ok-add_uses-in-Fsm t c =
    let e = ap plain_ctl c.in-Fsm.is ∙ plain_fsm c.in-Fsm.start c.in-Fsm.tested c.in-Fsm.test c.in-Fsm.state c.in-Fsm.body c.in-Fsm.last c.in-Fsm.next in
    rw e (grind (arith, common_steps))

pub add_ctl_uses-returns-in_ok-add_body_uses-in-Branch : goal.add_ctl_uses-returns-in_ok-add_body_uses-in-Branch
add_ctl_uses-returns-in_ok-add_body_uses-in-Branch t c =
    let e = ap plain_ctl c.in-Branch.is ∙ plain_branch c.in-Branch.test c.in-Branch.yes c.in-Branch.no in
    rw e (grind (arith, common_steps))
