-- What an outer body gives, by its bounds and its stages.
use Rattle.std.proofs.Common.{◌≡◌, ℕ, List, ◌++◌, ap, sym, ◌∙◌, append_assoc}
use Rattle.std.specs.Prelude.{Option}
use Rattle.sp_affine.specs.Affine.{Affine}
use Rattle.sp_core.specs.PlainCore.{PlainCounter, PlainNode, PlainStages, outer, PlainMem}
use Rattle.sp_patterns.specs.Patterns.{bounds_forms, node_forms, stages_forms, node_lengths, stages_lengths}
use Rattle.sp_patterns.specs.Ranges.{PlainAround, inside}
use Rattle.sp_words.specs.declared.kind.Style.{Style}

module _ (mems : List PlainMem) (around within : PlainAround) (counters given : List PlainCounter) (style : Style) (owned : List ℕ) (stages left : PlainStages) (node : PlainNode)
    (is : node ≡ outer counters style owned stages) (same : given ≡ counters) (all : left ≡ stages) (entered : within ≡ inside mems around given) where
  pub outer_forms : (old new : List (Option (List Affine))) → new ≡ old ++ bounds_forms mems around given → new ++ stages_forms mems within left ≡ old ++ node_forms mems around node
  outer_forms old new e =
      ap (λ x. x ++ stages_forms mems within left) e
      ∙ ap (λ x. (old ++ bounds_forms mems around given) ++ stages_forms mems x left) entered
      ∙ ap (λ x. (old ++ bounds_forms mems around given) ++ stages_forms mems (inside mems around given) x) all
      ∙ append_assoc old (bounds_forms mems around given) (stages_forms mems (inside mems around given) stages)
      ∙ ap (λ x. old ++ node_forms mems around (outer x style owned stages)) same
      ∙ sym (ap (λ x. old ++ node_forms mems around x) is)

  pub outer_lengths : (old : List (Option ℕ)) → old ++ stages_lengths mems within left ≡ old ++ node_lengths mems around node
  outer_lengths old =
      ap (λ x. old ++ stages_lengths mems x left) entered
      ∙ ap (λ x. old ++ stages_lengths mems (inside mems around given) x) all
      ∙ ap (λ x. old ++ node_lengths mems around (outer x style owned stages)) same
      ∙ sym (ap (λ x. old ++ node_lengths mems around x) is)
