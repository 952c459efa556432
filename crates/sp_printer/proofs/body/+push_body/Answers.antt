use Rattle.std.proofs.Common.{arith, ap, ◌∙◌}
use Rattle.std.proofs.lemmas.Grind.{common_steps}
use Rattle.sp_tree.specs.PlainTree.{plain_ctl}
use Rattle.sp_printer.proofs.TreeLemmas.{plain_block, plain_foreach, plain_reduce, plain_mem_reduce, plain_fsm, plain_branch}
use Rattle.sp_printer.proofs.body.+push_body.Goals as goal

pub push_ctl-returns-in-Block : goal.push_ctl-returns-in-Block
push_ctl-returns-in-Block t c =
    let e = ap plain_ctl c.in-Block.is ∙ plain_block c.in-Block.style c.in-Block.body in
    rw e (grind (arith, common_steps))

pub push_ctl-returns-in-Foreach : goal.push_ctl-returns-in-Foreach
push_ctl-returns-in-Foreach t c =
    let e = ap plain_ctl c.in-Foreach.is ∙ plain_foreach c.in-Foreach.style c.in-Foreach.counters c.in-Foreach.body in
    rw e (grind (arith, common_steps))

pub push_ctl-returns-in-Reduce : goal.push_ctl-returns-in-Reduce
push_ctl-returns-in-Reduce t c =
    let e = ap plain_ctl c.in-Reduce.is ∙ plain_reduce c.in-Reduce.style c.in-Reduce.fold c.in-Reduce.acc c.in-Reduce.counters c.in-Reduce.body c.in-Reduce.value c.in-Reduce.comb in
    rw e (grind (arith, common_steps))

pub push_ctl-returns-in-MemReduce : goal.push_ctl-returns-in-MemReduce
push_ctl-returns-in-MemReduce t c =
    let e = ap plain_ctl c.in-MemReduce.is ∙ plain_mem_reduce c.in-MemReduce.style c.in-MemReduce.acc c.in-MemReduce.counters c.in-MemReduce.body c.in-MemReduce.part c.in-MemReduce.comb in
    rw e (grind (arith, common_steps))

pub push_ctl-returns-in-Fsm : goal.push_ctl-returns-in-Fsm
push_ctl-returns-in-Fsm t c =
    let e = ap plain_ctl c.in-Fsm.is ∙ plain_fsm c.in-Fsm.start c.in-Fsm.tested c.in-Fsm.test c.in-Fsm.state c.in-Fsm.body c.in-Fsm.last c.in-Fsm.next in
    rw e (grind (arith, common_steps))

pub push_ctl-returns : goal.push_ctl-returns
push_ctl-returns t c =
    let e = ap plain_ctl c.in-Branch.is ∙ plain_branch c.in-Branch.test c.in-Branch.yes c.in-Branch.no in
    rw e (grind (arith, common_steps))
