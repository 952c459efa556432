-- Stages in front of others.
use Rattle.std.proofs.Common.{◌≡◌, ℕ, ◌+◌, List, [], ◌∷◌, ◌++◌, drop, sym, ◌∙◌, ap}
use Rattle.sp_core.specs.declared.node.Node.{Node}
use Rattle.sp_core.specs.declared.node.Stage.{Stage}
use Rattle.sp_core.specs.Plain.{plain_node, plain_stage_list}
use Rattle.sp_core.specs.PlainCore.{PlainNode, more_stage}
use Rattle.sp_unroll.specs.Stages.{onto}
use Rattle.sp_unroll.proofs.NodeLemmas.{onto_more}
use Rattle.sp_narrow.specs.Narrow.{narrow_node, narrow_stages}

-- one more stage, narrow
pub stage_narrowed : (made after stages : List Stage) (s : Stage) (node : Node) (i : ℕ) → drop i stages ≡ s ∷ drop (i + 1) stages → plain_node node ≡ narrow_node (plain_node s.node)
    → after ≡ made ++ record { first = s.first; last = s.last; comb = s.comb; node = node } ∷ []
    → onto after (narrow_stages (plain_stage_list (drop (i + 1) stages))) ≡ onto made (narrow_stages (plain_stage_list (drop i stages)))
stage_narrowed made after stages s node i d n e =
    let rest = narrow_stages (plain_stage_list (drop (i + 1) stages)) in
    ap (λ l. onto l rest) e
    ∙ onto_more made (record { first = s.first; last = s.last; comb = s.comb; node = node }) rest
    ∙ ap (λ (x : PlainNode). onto made (more_stage s.first s.last s.comb x rest)) n
    ∙ sym (ap (λ l. onto made (narrow_stages (plain_stage_list l))) d)
