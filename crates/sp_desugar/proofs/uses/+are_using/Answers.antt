use Rattle.std.proofs.Common.{◌≡◌, false, arith, ap, sym, ◌∙◌}
use Rattle.std.proofs.lemmas.Grind.{common_steps}
use Rattle.sp_tree.specs.PlainTree.{plain_ctl, plain_stmt_kind}
use Rattle.sp_sugar.specs.Uses.{is_using}
use Rattle.sp_desugar.proofs.TreeLemmas.{plain_block, plain_foreach, plain_reduce, plain_mem_reduce, plain_fsm, plain_branch}
use Rattle.sp_desugar.proofs.UseLemmas.{using_step}
use Rattle.sp_desugar.specs.Names.{among}
use Rattle.sp_desugar.proofs.uses.+are_using.Goals as goal

pub ctl_uses-returns-in-Block : goal.ctl_uses-returns-in-Block
ctl_uses-returns-in-Block t c =
    let e = ap plain_ctl c.in-Block.is ∙ plain_block c.in-Block.style c.in-Block.body in
    rw e (grind (arith, common_steps))

pub are_using-loop-s-preserved : goal.are_using-loop-s-preserved
are_using-loop-s-preserved t c =
    let none : is_using (among c.loop-s.now.items) (plain_stmt_kind c.s-item.result.kind) ≡ false =
    ap (λ names. is_using (among names) (plain_stmt_kind c.s-item.result.kind)) (sym c.deref.ensures.value) ∙ sym c.in_ok-is_using.ensures ∙ c.if-branch.false in
    using_step (among c.loop-s.now.items) (among c.rename_in.new.names.items) c.args.body.now c.loop-s.s-index c.s-item.result c.loop-s-test.true c.s-item.is none c.in_ok-rename_in.ensures
    ∙ c.loop-s.invariant

pub ctl_uses-returns-in_ok-inside-in-Foreach : goal.ctl_uses-returns-in_ok-inside-in-Foreach
ctl_uses-returns-in_ok-inside-in-Foreach t c =
    let e = ap plain_ctl c.in-Foreach.is ∙ plain_foreach c.in-Foreach.style c.in-Foreach.counters c.in-Foreach.body in
    rw e (grind (arith, common_steps))

pub ctl_uses-returns-in_ok-after-in-Reduce : goal.ctl_uses-returns-in_ok-after-in-Reduce
ctl_uses-returns-in_ok-after-in-Reduce t c =
    let e = ap plain_ctl c.in-Reduce.is ∙ plain_reduce c.in-Reduce.style c.in-Reduce.fold c.in-Reduce.acc c.in-Reduce.counters c.in-Reduce.body c.in-Reduce.value c.in-Reduce.comb in
    rw e (grind (arith, common_steps))

pub ctl_uses-returns-in_ok-inside-in-MemReduce : goal.ctl_uses-returns-in_ok-inside-in-MemReduce
ctl_uses-returns-in_ok-inside-in-MemReduce t c =
    let e = ap plain_ctl c.in-MemReduce.is ∙ plain_mem_reduce c.in-MemReduce.style c.in-MemReduce.acc c.in-MemReduce.counters c.in-MemReduce.body c.in-MemReduce.part c.in-MemReduce.comb in
    rw e (grind (arith, common_steps))

pub ctl_uses-returns-in_ok-inside-in-Fsm : goal.ctl_uses-returns-in_ok-inside-in-Fsm
ctl_uses-returns-in_ok-inside-in-Fsm t c =
    let e = ap plain_ctl c.in-Fsm.is ∙ plain_fsm c.in-Fsm.start c.in-Fsm.tested c.in-Fsm.test c.in-Fsm.state c.in-Fsm.body c.in-Fsm.last c.in-Fsm.next in
    rw e (grind (arith, common_steps))

pub ctl_uses-returns-in_ok-second-in-Branch : goal.ctl_uses-returns-in_ok-second-in-Branch
ctl_uses-returns-in_ok-second-in-Branch t c =
    let e = ap plain_ctl c.in-Branch.is ∙ plain_branch c.in-Branch.test c.in-Branch.yes c.in-Branch.no in
    rw e (grind (arith, common_steps))
