use Rattle.std.proofs.Common.{ap, sym, ◌∙◌, ◌++◌, append_assoc}
use Rattle.sp_core.specs.Invariant.{owned_in, owned_in_stages}
use Rattle.sp_core.specs.Plain.{plain_node, plain_stage_list}
use Rattle.sp_core.proofs.TreeLemmas.{plain_node-Outer}
use Rattle.sp_core.proofs.size.+collect_owned.Goals as goal

pub loop-stage-init : goal.loop-stage-init
loop-stage-init t c =
    let e = ap owned_in (ap plain_node c.in-Outer.is ∙ plain_node-Outer c.in-Outer.counters c.in-Outer.style c.in-Outer.owned c.in-Outer.stages) in
    let d = ap (λ xs. owned_in_stages (plain_stage_list xs)) c.deref-stage-items.ensures.value in
    let x = c.in_ok-extend_from_slice-in-Outer.ensures.items ∙ ap (λ xs. c.args.into.now.items ++ xs) c.deref-in-Outer.ensures.value in
    ap (λ xs. xs ++ owned_in_stages (plain_stage_list c.deref-stage-items.result.now)) x
    ∙ append_assoc c.args.into.now.items c.in-Outer.owned.items (owned_in_stages (plain_stage_list c.deref-stage-items.result.now))
    ∙ ap (λ xs. c.args.into.now.items ++ xs) (ap (λ xs. c.in-Outer.owned.items ++ xs) d ∙ sym e)
