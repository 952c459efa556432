use Rattle.std.proofs.Common.{arith, ap, ◌∙◌}
use Rattle.std.proofs.lemmas.Grind.{common_steps}
use Rattle.sp_tree.specs.PlainTree.{plain_ctl}
use Rattle.sp_counts.proofs.TreeLemmas.{plain_foreach, plain_reduce}
use Rattle.sp_counts.proofs.stream.ctl_stage.Goals as goal

pub returns-then-not-is_inner : goal.returns-then-not-is_inner
returns-then-not-is_inner c =
    let e = ap plain_ctl c.in-Foreach.is ∙ plain_foreach c.in-Foreach.style c.in-Foreach.counters c.in-Foreach.body in
    rw e (grind (arith, common_steps))

pub returns-then-not-is_inner-2 : goal.returns-then-not-is_inner-2
returns-then-not-is_inner-2 c =
    let e = ap plain_ctl c.in-Reduce.is ∙ plain_reduce c.in-Reduce.style c.in-Reduce.fold c.in-Reduce.acc c.in-Reduce.counters c.in-Reduce.body c.in-Reduce.value c.in-Reduce.comb in
    rw e (grind (arith, common_steps))

pub returns-in_ok-add_body-in-Foreach : goal.returns-in_ok-add_body-in-Foreach
returns-in_ok-add_body-in-Foreach c =
    let e = ap plain_ctl c.in-Foreach.is ∙ plain_foreach c.in-Foreach.style c.in-Foreach.counters c.in-Foreach.body in
    rw e (grind (arith, common_steps))

pub returns-in_ok-write-in-Reduce : goal.returns-in_ok-write-in-Reduce
returns-in_ok-write-in-Reduce c =
    let e = ap plain_ctl c.in-Reduce.is ∙ plain_reduce c.in-Reduce.style c.in-Reduce.fold c.in-Reduce.acc c.in-Reduce.counters c.in-Reduce.body c.in-Reduce.value c.in-Reduce.comb in
    rw e (grind (arith, common_steps))
