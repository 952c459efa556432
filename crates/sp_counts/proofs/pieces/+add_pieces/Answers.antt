use Rattle.std.proofs.Common.{◌*◌, ◌≤◌, arith, ap, ◌∙◌, map}
use Rattle.std.proofs.lemmas.Grind.{common_steps}
use Rattle.sp_tree.specs.Counts.{lanes_in, kind_lanes}
use Rattle.sp_tree.specs.Limits.{most_lanes}
use Rattle.sp_tree.specs.PlainTree.{plain_counter, plain_ctl, plain_stmts}
use Rattle.sp_tree.specs.Structure.{lanes_of}
use Rattle.sp_counts.specs.Capped.{capped}
use Rattle.sp_counts.proofs.CappedLemmas.{exact_inside}
use Rattle.sp_counts.proofs.TreeLemmas.{plain_block, plain_foreach, plain_reduce, plain_mem_reduce, plain_fsm, plain_branch}
use Rattle.sp_counts.proofs.pieces.+add_pieces.Goals as goal

pub add_ctl_pieces-returns-in-Block : goal.add_ctl_pieces-returns-in-Block
add_ctl_pieces-returns-in-Block t c = λ h.
    let e = ap plain_ctl c.in-Block.is ∙ plain_block c.in-Block.style c.in-Block.body in
    let k = ap (λ x. kind_lanes x c.args.lanes) e in
    let d0 = ap (λ s. lanes_in (plain_stmts s) c.args.lanes) c.deref.ensures.value in
    let a0 = c.add_pieces.ensures (omega (arith, k, d0, h)) in
    rw e (grind (arith, common_steps, a0))

pub add_ctl_pieces-returns-in_ok-add_part-in-Fsm-3 : goal.add_ctl_pieces-returns-in_ok-add_part-in-Fsm-3
add_ctl_pieces-returns-in_ok-add_part-in-Fsm-3 t c = λ h.
    let e = ap plain_ctl c.in-Fsm.is ∙ plain_fsm c.in-Fsm.start c.in-Fsm.tested c.in-Fsm.test c.in-Fsm.state c.in-Fsm.body c.in-Fsm.last c.in-Fsm.next in
    let k = ap (λ x. kind_lanes x c.args.lanes) e in
    let d0 = ap (λ s. lanes_in (plain_stmts s) c.args.lanes) c.deref-in-Fsm.ensures.value in
    let a0 = c.add_pieces-in-Fsm.ensures (omega (arith, k, d0, h)) in
    rw e (grind (arith, common_steps, a0))

pub add_ctl_pieces-returns-in_ok-add_pieces-in-Branch : goal.add_ctl_pieces-returns-in_ok-add_pieces-in-Branch
add_ctl_pieces-returns-in_ok-add_pieces-in-Branch t c = λ h.
    let e = ap plain_ctl c.in-Branch.is ∙ plain_branch c.in-Branch.test c.in-Branch.yes c.in-Branch.no in
    let k = ap (λ x. kind_lanes x c.args.lanes) e in
    let d0 = ap (λ s. lanes_in (plain_stmts s) c.args.lanes) c.deref-in-Branch.ensures.value in
    let a0 = c.add_pieces-in-Branch.ensures (omega (arith, k, d0, h)) in
    let d1 = ap (λ s. lanes_in (plain_stmts s) c.args.lanes) c.deref-in-Branch-2.ensures.value in
    let a1 = c.add_pieces-in-Branch-2.ensures (omega (arith, k, d1, h)) in
    rw e (grind (arith, common_steps, a0, a1))

pub add_ctl_pieces-returns-in-Foreach : goal.add_ctl_pieces-returns-in-Foreach
add_ctl_pieces-returns-in-Foreach t c = λ h.
    let e = ap plain_ctl c.in-Foreach.is ∙ plain_foreach c.in-Foreach.style c.in-Foreach.counters c.in-Foreach.body in
    let k = ap (λ x. kind_lanes x c.args.lanes) e in
    let inside = c.args.lanes * lanes_of (map plain_counter c.in-Foreach.counters.items) in
    let within : lanes_in (plain_stmts c.in-Foreach.body.items) inside ≤ most_lanes = omega (arith, k, h) in
    let r = c.lanes_inside.ensures ∙ ap (λ xs. capped (c.args.lanes * lanes_of (map plain_counter xs))) c.deref-in-Foreach-2.ensures.value ∙ exact_inside _ _ within in
    let d = ap (λ s. lanes_in (plain_stmts s) c.lanes_inside.result) c.deref-in-Foreach.ensures.value in
    let f = ap (λ n. lanes_in (plain_stmts c.in-Foreach.body.items) n) r in
    let a = c.add_pieces-in-Foreach.ensures (omega (arith, d, f, within)) in
    rw e (grind (arith, common_steps, r, a))

pub add_ctl_pieces-returns-in_ok-vec-in-MemReduce : goal.add_ctl_pieces-returns-in_ok-vec-in-MemReduce
add_ctl_pieces-returns-in_ok-vec-in-MemReduce t c = λ h.
    let e = ap plain_ctl c.in-MemReduce.is ∙ plain_mem_reduce c.in-MemReduce.style c.in-MemReduce.acc c.in-MemReduce.counters c.in-MemReduce.body c.in-MemReduce.part c.in-MemReduce.comb in
    let k = ap (λ x. kind_lanes x c.args.lanes) e in
    let inside = c.args.lanes * lanes_of (map plain_counter c.in-MemReduce.counters.items) in
    let within : lanes_in (plain_stmts c.in-MemReduce.body.items) inside ≤ most_lanes = omega (arith, k, h) in
    let r = c.lanes_inside-inside.ensures ∙ ap (λ xs. capped (c.args.lanes * lanes_of (map plain_counter xs))) c.deref-in-MemReduce.ensures.value ∙ exact_inside _ _ within in
    let d = ap (λ s. lanes_in (plain_stmts s) c.lanes_inside-inside.result) c.deref-in-MemReduce-2.ensures.value in
    let f = ap (λ n. lanes_in (plain_stmts c.in-MemReduce.body.items) n) r in
    let a = c.add_pieces-in-MemReduce.ensures (omega (arith, d, f, within)) in
    rw e (grind (arith, common_steps, r, a))

pub add_ctl_pieces-returns-in-Reduce : goal.add_ctl_pieces-returns-in-Reduce
add_ctl_pieces-returns-in-Reduce t c = λ h.
    let e = ap plain_ctl c.in-Reduce.is ∙ plain_reduce c.in-Reduce.style c.in-Reduce.fold c.in-Reduce.acc c.in-Reduce.counters c.in-Reduce.body c.in-Reduce.value c.in-Reduce.comb in
    let k = ap (λ x. kind_lanes x c.args.lanes) e in
    let d = ap (λ s. lanes_in (plain_stmts s) (c.args.lanes * lanes_of (map plain_counter c.deref-in-Reduce.result.now))) c.deref-in-Reduce-2.ensures.value in
    let f = ap (λ s. lanes_in (plain_stmts c.in-Reduce.body.items) (c.args.lanes * lanes_of (map plain_counter s))) c.deref-in-Reduce.ensures.value in
    let a = c.add_reduce_pieces.ensures (omega (arith, d, f, k, h)) in
    rw e (grind (arith, common_steps, a))

pub add_reduce_pieces-returns : goal.add_reduce_pieces-returns
add_reduce_pieces-returns t c = λ h.
    let r = c.lanes_inside.ensures ∙ exact_inside _ _ h in
    let f = ap (λ n. lanes_in (plain_stmts c.args.body.now) n) r in
    let a = c.add_pieces-2.ensures (omega (arith, f, h)) in
    grind (arith, common_steps, r, a)
