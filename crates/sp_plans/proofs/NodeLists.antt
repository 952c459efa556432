-- One node more.
use Rattle.std.proofs.Common.{◌≡◌, ℕ, ◌+◌, ◌<◌, List, [], ◌∷◌, ◌++◌, length, map, slice_index_or, sym, ap, subst, ◌∙◌, ⊎_elim, arith}
use Rattle.std.proofs.lemmas.Bool.{cases_lt}
use Rattle.std.proofs.lemmas.List.{get_or_append_left, get_or_push, length-map, map-append}
use Rattle.sp_plan.specs.declared.plan.NodePlan.{NodePlan}
use Rattle.sp_plan.specs.Plain.{plain_node_plan}
use Rattle.sp_plan.specs.PlainPlan.{PlainNodePlan, other_plan}

module _ (P : ℕ → PlainNodePlan → Type 0) where
  -- what holds of each node of a list
  abbrev HoldsBelow : (count : ℕ) → List PlainNodePlan → Type 0
  HoldsBelow count nodes = (j : ℕ) → j < count → P j (slice_index_or nodes j other_plan)

  at_push : (nodes : List PlainNodePlan) (x : PlainNodePlan) (k : ℕ) → length nodes ≡ k → HoldsBelow k nodes → P k x → HoldsBelow (k + 1) (nodes ++ x ∷ [])
  at_push nodes x k is h p j lt =
      ⊎_elim (λ b. subst (P j) (sym (get_or_append_left nodes (x ∷ []) other_plan j (omega (arith, is, b)))) (h j b))
      (λ b. let e : k ≡ j = omega arith in subst (λ i. P i (slice_index_or (nodes ++ x ∷ []) i other_plan)) e (subst (P k) (sym (get_or_push nodes x other_plan k is)) p))
      (cases_lt j k)

  pub each_push : (nodes : List NodePlan) (x : NodePlan) (k : ℕ) → length nodes ≡ k → HoldsBelow k (map plain_node_plan nodes) → P k (plain_node_plan x) → (after : List NodePlan) → after ≡ nodes ++ x ∷ [] → HoldsBelow (k + 1) (map plain_node_plan after)
  each_push nodes x k is h p after e =
      subst (HoldsBelow (k + 1)) (sym (ap (map plain_node_plan) e ∙ map-append plain_node_plan nodes (x ∷ [])))
      (at_push (map plain_node_plan nodes) (plain_node_plan x) k (length-map nodes plain_node_plan ∙ is) h p)
