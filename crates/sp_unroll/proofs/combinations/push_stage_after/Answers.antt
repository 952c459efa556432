use Rattle.std.proofs.Common.{◌≡◌, ◌-◌, ◌++◌, ◌∷◌, [], true, map, arith, ap, ◌∙◌}
use Rattle.std.proofs.lemmas.Grind.{common_steps}
use Rattle.sp_core.specs.Around.{lanes_of}
use Rattle.sp_core.specs.Plain.{plain_counter}
use Rattle.sp_core.specs.PlainCore.{no_stage, more_stage}
use Rattle.sp_unroll.specs.Stages.{onto}
use Rattle.sp_unroll.proofs.NodeLemmas.{onto_more}
use Rattle.sp_unroll.proofs.combinations.push_stage_after.Goals as goal

pub returns : goal.returns
returns c =
    let out = c.args.out.now.items in
    let last = c.saturating_sub-last.result in
    let node = c.in_ok-node.node in
    let e : c.push.new.self.items ≡ out ++ record { first = 0; last = last; comb = true; node = node } ∷ [] = grind (arith, common_steps) in
    let l : last ≡ lanes_of (map plain_counter c.args.counters.now) - 1 = grind (arith, common_steps) in
    ap (λ l. onto l no_stage) e
    ∙ onto_more out (record { first = 0; last = last; comb = true; node = node }) no_stage
    ∙ (λ i. onto out (more_stage 0 (l i) true (c.in_ok-node.ensures i) no_stage))
