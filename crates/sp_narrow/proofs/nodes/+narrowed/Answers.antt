use Rattle.std.proofs.Common.{◌≡◌, ◌++◌, ◌+◌, ◌∷◌, [], drop, arith, sym, ap, ◌∙◌}
use Rattle.std.proofs.lemmas.Grind.{common_steps}
use Rattle.std.proofs.lemmas.List.{drop_more}
use Rattle.sp_core.specs.Plain.{plain_node, plain_stage_list}
use Rattle.sp_unroll.specs.Stages.{onto}
use Rattle.sp_unroll.proofs.NodeLemmas.{onto_none, onto_all}
use Rattle.sp_unroll.proofs.TreeLemmas.{plain_outer}
use Rattle.sp_narrow.specs.Narrow.{narrow_node, narrow_stages}
use Rattle.sp_narrow.proofs.Stages.{stage_narrowed}
use Rattle.sp_narrow.proofs.nodes.+narrowed.Goals as goal

pub narrow_stages-loop-stage-init : goal.narrow_stages-loop-stage-init
narrow_stages-loop-stage-init t c = ap (λ l. onto l (narrow_stages (plain_stage_list c.args.stages.now))) c.new-made.ensures.items ∙ onto_none (narrow_stages (plain_stage_list c.args.stages.now))

pub narrow_stages-loop-stage-preserved : goal.narrow_stages-loop-stage-preserved
narrow_stages-loop-stage-preserved t c =
    let stages = c.args.stages.now in
    let i = c.loop-stage.stage-index in
    let s = c.stage-item.result in
    let node = c.in_ok-node.node in
    let made = c.loop-stage.made.items in
    let d : drop i stages ≡ s ∷ drop (i + 1) stages = drop_more stages i s c.loop-stage-test.true ∙ ap (λ x. x ∷ drop (i + 1) stages) (sym c.stage-item.is) in
    let e : c.push.new.self.items ≡ made ++ record { first = s.first; last = s.last; comb = s.comb; node = node } ∷ [] = grind (arith, common_steps) in
    stage_narrowed made c.push.new.self.items stages s node i d c.in_ok-node.ensures e ∙ c.loop-stage.invariant

pub narrow_stages-returns : goal.narrow_stages-returns
narrow_stages-returns t c =
    let d : drop c.loop-stage.stage-index c.args.stages.now ≡ [] = grind (arith, common_steps) in
    onto_all c.loop-stage.made.items ∙ sym (ap (λ l. onto c.loop-stage.made.items (narrow_stages (plain_stage_list l))) d) ∙ c.loop-stage.invariant

pub narrow_node-returns-in_ok-stages-in-Outer : goal.narrow_node-returns-in_ok-stages-in-Outer
narrow_node-returns-in_ok-stages-in-Outer t c =
    let e = ap (λ n. narrow_node (plain_node n)) c.in-Outer.is ∙ ap narrow_node (plain_outer c.in-Outer.counters c.in-Outer.style c.in-Outer.owned c.in-Outer.stages) in
    plain_outer c.in_ok-counters-in-Outer.counters c.in-Outer.style c.in_ok-owned-in-Outer.owned c.in_ok-stages-in-Outer.stages
    ∙ rw e (grind (arith, common_steps))
