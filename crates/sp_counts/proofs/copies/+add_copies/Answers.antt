use Rattle.std.proofs.Common.{◌*◌, ◌≤◌, arith, ap, ◌∙◌, map}
use Rattle.std.proofs.lemmas.Grind.{common_steps}
use Rattle.sp_tree.specs.Counts.{lanes_in, kind_lanes}
use Rattle.sp_tree.specs.Limits.{most_lanes}
use Rattle.sp_tree.specs.PlainTree.{plain_counter, plain_ctl, plain_stmts}
use Rattle.sp_tree.specs.Structure.{lanes_of}
use Rattle.sp_counts.specs.Capped.{capped}
use Rattle.sp_counts.proofs.CappedLemmas.{exact_inside}
use Rattle.sp_counts.proofs.TreeLemmas.{plain_block, plain_foreach, plain_reduce, plain_mem_reduce, plain_fsm, plain_branch}
use Rattle.sp_counts.proofs.copies.+add_copies.Goals as goal

pub add_ctl_copies-returns-in-Block : goal.add_ctl_copies-returns-in-Block
add_ctl_copies-returns-in-Block t c = λ all h.
    let e = ap plain_ctl c.in-Block.is ∙ plain_block c.in-Block.style c.in-Block.body in
    let k = ap (λ x. kind_lanes x c.args.lanes) e in
    let d0 = ap (λ s. lanes_in (plain_stmts s) c.args.lanes) c.deref.ensures.value in
    let a0 = c.add_copies.ensures (omega (arith, k, d0, h)) in
    rw e (grind (arith, common_steps, a0))

pub add_ctl_copies-returns-in-Fsm : goal.add_ctl_copies-returns-in-Fsm
add_ctl_copies-returns-in-Fsm t c = λ all h.
    let e = ap plain_ctl c.in-Fsm.is ∙ plain_fsm c.in-Fsm.start c.in-Fsm.tested c.in-Fsm.test c.in-Fsm.state c.in-Fsm.body c.in-Fsm.last c.in-Fsm.next in
    let k = ap (λ x. kind_lanes x c.args.lanes) e in
    let d0 = ap (λ s. lanes_in (plain_stmts s) c.args.lanes) c.deref-in-Fsm.ensures.value in
    let a0 = c.add_copies-in-Fsm.ensures (omega (arith, k, d0, h)) in
    rw e (grind (arith, common_steps, a0))

pub add_ctl_copies-returns-in_ok-add_copies-in-Branch : goal.add_ctl_copies-returns-in_ok-add_copies-in-Branch
add_ctl_copies-returns-in_ok-add_copies-in-Branch t c = λ all h.
    let e = ap plain_ctl c.in-Branch.is ∙ plain_branch c.in-Branch.test c.in-Branch.yes c.in-Branch.no in
    let k = ap (λ x. kind_lanes x c.args.lanes) e in
    let d0 = ap (λ s. lanes_in (plain_stmts s) c.args.lanes) c.deref-in-Branch.ensures.value in
    let a0 = c.add_copies-in-Branch.ensures (omega (arith, k, d0, h)) in
    let d1 = ap (λ s. lanes_in (plain_stmts s) c.args.lanes) c.deref-in-Branch-2.ensures.value in
    let a1 = c.add_copies-in-Branch-2.ensures (omega (arith, k, d1, h)) in
    rw e (grind (arith, common_steps, a0, a1))

pub add_ctl_copies-returns-in_ok-stages-in-Foreach : goal.add_ctl_copies-returns-in_ok-stages-in-Foreach
add_ctl_copies-returns-in_ok-stages-in-Foreach t c = λ all h.
    let e = ap plain_ctl c.in-Foreach.is ∙ plain_foreach c.in-Foreach.style c.in-Foreach.counters c.in-Foreach.body in
    let k = ap (λ x. kind_lanes x c.args.lanes) e in
    let inside = c.args.lanes * lanes_of (map plain_counter c.in-Foreach.counters.items) in
    let within : lanes_in (plain_stmts c.in-Foreach.body.items) inside ≤ most_lanes = omega (arith, k, h) in
    let r = c.lanes_inside.ensures ∙ ap (λ xs. capped (c.args.lanes * lanes_of (map plain_counter xs))) c.deref-in-Foreach-3.ensures.value ∙ exact_inside _ _ within in
    let d = ap (λ s. lanes_in (plain_stmts s) c.lanes_inside.result) c.deref-in-Foreach-2.ensures.value in
    let f = ap (λ n. lanes_in (plain_stmts c.in-Foreach.body.items) n) r in
    let a = c.add_copies-in-Foreach.ensures (omega (arith, d, f, within)) in
    rw e (grind (arith, common_steps, r, a))

pub add_ctl_copies-returns-in_ok-stages-in-Reduce : goal.add_ctl_copies-returns-in_ok-stages-in-Reduce
add_ctl_copies-returns-in_ok-stages-in-Reduce t c = λ all h.
    let e = ap plain_ctl c.in-Reduce.is ∙ plain_reduce c.in-Reduce.style c.in-Reduce.fold c.in-Reduce.acc c.in-Reduce.counters c.in-Reduce.body c.in-Reduce.value c.in-Reduce.comb in
    let k = ap (λ x. kind_lanes x c.args.lanes) e in
    let inside = c.args.lanes * lanes_of (map plain_counter c.in-Reduce.counters.items) in
    let within : lanes_in (plain_stmts c.in-Reduce.body.items) inside ≤ most_lanes = omega (arith, k, h) in
    let r = c.lanes_inside-in-Reduce.ensures ∙ ap (λ xs. capped (c.args.lanes * lanes_of (map plain_counter xs))) c.deref-in-Reduce-4.ensures.value ∙ exact_inside _ _ within in
    let d = ap (λ s. lanes_in (plain_stmts s) c.lanes_inside-in-Reduce.result) c.deref-in-Reduce-3.ensures.value in
    let f = ap (λ n. lanes_in (plain_stmts c.in-Reduce.body.items) n) r in
    let a = c.add_copies-in-Reduce.ensures (omega (arith, d, f, within)) in
    rw e (grind (arith, common_steps, r, a))

pub add_ctl_copies-returns-in_ok-stages-in-MemReduce : goal.add_ctl_copies-returns-in_ok-stages-in-MemReduce
add_ctl_copies-returns-in_ok-stages-in-MemReduce t c = λ all h.
    let e = ap plain_ctl c.in-MemReduce.is ∙ plain_mem_reduce c.in-MemReduce.style c.in-MemReduce.acc c.in-MemReduce.counters c.in-MemReduce.body c.in-MemReduce.part c.in-MemReduce.comb in
    let k = ap (λ x. kind_lanes x c.args.lanes) e in
    let inside = c.args.lanes * lanes_of (map plain_counter c.in-MemReduce.counters.items) in
    let within : lanes_in (plain_stmts c.in-MemReduce.body.items) inside ≤ most_lanes = omega (arith, k, h) in
    let r = c.lanes_inside-in-MemReduce.ensures ∙ ap (λ xs. capped (c.args.lanes * lanes_of (map plain_counter xs))) c.deref-in-MemReduce-3.ensures.value ∙ exact_inside _ _ within in
    let d = ap (λ s. lanes_in (plain_stmts s) c.lanes_inside-in-MemReduce.result) c.deref-in-MemReduce-2.ensures.value in
    let f = ap (λ n. lanes_in (plain_stmts c.in-MemReduce.body.items) n) r in
    let a = c.add_copies-in-MemReduce.ensures (omega (arith, d, f, within)) in
    rw e (grind (arith, common_steps, r, a))
