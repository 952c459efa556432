use Rattle.std.proofs.Common.{arith, ap, ◌∙◌}
use Rattle.std.proofs.lemmas.Grind.{common_steps}
use Rattle.sp_tree.specs.PlainTree.{plain_ctl, plain_stmts}
use Rattle.sp_counts.proofs.CappedLemmas.{around_within, inside_capped}
use Rattle.sp_counts.proofs.TreeLemmas.{plain_block, plain_foreach, plain_reduce, plain_mem_reduce, plain_fsm, plain_branch}
use Rattle.sp_counts.proofs.lanes.+lanes_in.Goals as goal

pub ctl_lanes-returns-in-Block : goal.ctl_lanes-returns-in-Block
ctl_lanes-returns-in-Block t c =
    let e = ap plain_ctl c.in-Block.is ∙ plain_block c.in-Block.style c.in-Block.body in
    rw e (grind (arith, common_steps, inside_capped))

pub ctl_lanes-returns-in-Foreach : goal.ctl_lanes-returns-in-Foreach
ctl_lanes-returns-in-Foreach t c =
    let e = ap plain_ctl c.in-Foreach.is ∙ plain_foreach c.in-Foreach.style c.in-Foreach.counters c.in-Foreach.body in
    rw e (grind (arith, common_steps, inside_capped))

pub ctl_lanes-returns-in-Reduce : goal.ctl_lanes-returns-in-Reduce
ctl_lanes-returns-in-Reduce t c =
    let e = ap plain_ctl c.in-Reduce.is ∙ plain_reduce c.in-Reduce.style c.in-Reduce.fold c.in-Reduce.acc c.in-Reduce.counters c.in-Reduce.body c.in-Reduce.value c.in-Reduce.comb in
    rw e (grind (arith, common_steps, inside_capped))

pub ctl_lanes-returns-in-MemReduce : goal.ctl_lanes-returns-in-MemReduce
ctl_lanes-returns-in-MemReduce t c =
    let e = ap plain_ctl c.in-MemReduce.is ∙ plain_mem_reduce c.in-MemReduce.style c.in-MemReduce.acc c.in-MemReduce.counters c.in-MemReduce.body c.in-MemReduce.part c.in-MemReduce.comb in
    rw e (grind (arith, common_steps, inside_capped))

pub ctl_lanes-returns-in-Fsm : goal.ctl_lanes-returns-in-Fsm
ctl_lanes-returns-in-Fsm t c =
    let e = ap plain_ctl c.in-Fsm.is ∙ plain_fsm c.in-Fsm.start c.in-Fsm.tested c.in-Fsm.test c.in-Fsm.state c.in-Fsm.body c.in-Fsm.last c.in-Fsm.next in
    rw e (grind (arith, common_steps, inside_capped))

pub ctl_lanes-returns-in-Branch : goal.ctl_lanes-returns-in-Branch
ctl_lanes-returns-in-Branch t c =
    let e = ap plain_ctl c.in-Branch.is ∙ plain_branch c.in-Branch.test c.in-Branch.yes c.in-Branch.no in
    rw e (grind (arith, common_steps, inside_capped))

pub lanes_in-loop-s-init : goal.lanes_in-loop-s-init
lanes_in-loop-s-init t c = let h = around_within (plain_stmts c.args.body.now) c.args.around in (omega arith, omega arith, omega arith)
