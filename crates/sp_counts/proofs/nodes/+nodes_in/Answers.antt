use Rattle.std.proofs.Common.{arith, ap, ◌∙◌}
use Rattle.std.proofs.lemmas.Grind.{common_steps}
use Rattle.sp_tree.specs.PlainTree.{plain_ctl}
use Rattle.sp_counts.proofs.TreeLemmas.{plain_block, plain_foreach, plain_reduce, plain_mem_reduce, plain_fsm, plain_branch}
use Rattle.sp_counts.proofs.nodes.+nodes_in.Goals as goal

pub ctl_nodes-returns-in-Block : goal.ctl_nodes-returns-in-Block
ctl_nodes-returns-in-Block t c =
    let e = ap plain_ctl c.in-Block.is ∙ plain_block c.in-Block.style c.in-Block.body in
    rw e (grind (arith, common_steps))

pub ctl_nodes-returns-in-Foreach : goal.ctl_nodes-returns-in-Foreach
ctl_nodes-returns-in-Foreach t c =
    let e = ap plain_ctl c.in-Foreach.is ∙ plain_foreach c.in-Foreach.style c.in-Foreach.counters c.in-Foreach.body in
    rw e (grind (arith, common_steps))

pub ctl_nodes-returns-in_ok-nodes_in-in-Reduce : goal.ctl_nodes-returns-in_ok-nodes_in-in-Reduce
ctl_nodes-returns-in_ok-nodes_in-in-Reduce t c =
    let e = ap plain_ctl c.in-Reduce.is ∙ plain_reduce c.in-Reduce.style c.in-Reduce.fold c.in-Reduce.acc c.in-Reduce.counters c.in-Reduce.body c.in-Reduce.value c.in-Reduce.comb in
    rw e (grind (arith, common_steps))

pub ctl_nodes-returns-in-MemReduce : goal.ctl_nodes-returns-in-MemReduce
ctl_nodes-returns-in-MemReduce t c =
    let e = ap plain_ctl c.in-MemReduce.is ∙ plain_mem_reduce c.in-MemReduce.style c.in-MemReduce.acc c.in-MemReduce.counters c.in-MemReduce.body c.in-MemReduce.part c.in-MemReduce.comb in
    rw e (grind (arith, common_steps))

pub ctl_nodes-returns-in_ok-nodes_in-in-Fsm : goal.ctl_nodes-returns-in_ok-nodes_in-in-Fsm
ctl_nodes-returns-in_ok-nodes_in-in-Fsm t c =
    let e = ap plain_ctl c.in-Fsm.is ∙ plain_fsm c.in-Fsm.start c.in-Fsm.tested c.in-Fsm.test c.in-Fsm.state c.in-Fsm.body c.in-Fsm.last c.in-Fsm.next in
    rw e (grind (arith, common_steps))

pub ctl_nodes-returns-in_ok-nodes_in-in-Branch-2 : goal.ctl_nodes-returns-in_ok-nodes_in-in-Branch-2
ctl_nodes-returns-in_ok-nodes_in-in-Branch-2 t c =
    let e = ap plain_ctl c.in-Branch.is ∙ plain_branch c.in-Branch.test c.in-Branch.yes c.in-Branch.no in
    rw e (grind (arith, common_steps))
