-- A core has one plan.
use Rattle.std.proofs.Common.{◌≡◌, ℕ, ◌<◌, Bool, true, false, List, length, Option, None, arith, sym, ap, ◌∙◌, subst}
use Rattle.std.proofs.lemmas.Bool.{eqb-true}
use Rattle.std.proofs.lemmas.List.{ext_get_or, length-map}
use Rattle.std.specs.Prelude.{slice_index_or}
use Rattle.sp_bank.specs.Banking.{Banking}
use Rattle.sp_core.specs.declared.access.Meet.{Meet}
use Rattle.sp_core.specs.Forms.{PlainForms}
use Rattle.sp_core.specs.Numbering.{node_count}
use Rattle.sp_core.specs.PlainCore.{PlainCore}
use Rattle.sp_depths.specs.Depths.{depth_of}
use Rattle.sp_plan.specs.Copies.{duplicates, is_duplicated}
use Rattle.sp_plan.specs.PlainPlan.{PlainMemPlan, no_mem_plan, PlainNodePlan, other_plan, PlainPlan, mem_plan}
use Rattle.sp_plan.specs.Validity.{schemes_of}
use Rattle.sp_plans.specs.Planned.{IsBestBy, IsBestPlan, AreBestPlans, IsPlanned}
use Rattle.sp_schemes.proofs.Bodies.{all_below}
use Rattle.sp_schemes.proofs.Joint.{scheme_in}
use Rattle.sp_one_plan.proofs.Schemes.{one_scheme}
use Rattle.sp_one_plan.proofs.Slots.{one_finest}
use Rattle.sp_one_plan.proofs.Times.{one_least}
use Rattle.sp_stages.specs.Plans.{is_outer_of}

module _ (core : PlainCore) (meets : List Meet) (schemes : List (Option Banking)) where
  best_by : (outer : Bool) (k : ℕ) (p q : PlainNodePlan) → IsBestBy core meets schemes outer k p → IsBestBy core meets schemes outer k q → p ≡ q
  best_by true k p q a b = one_finest core meets k p q a b
  best_by false k p q a b = one_least core schemes meets k p q a b

  pub one_best : (k : ℕ) (p q : PlainNodePlan) → IsBestPlan core meets schemes k p → IsBestPlan core meets schemes k q → p ≡ q
  one_best k p q a b = best_by (is_outer_of core k) k p q a b

mem_of : (a b : PlainMemPlan) → a.scheme ≡ b.scheme → a.depth ≡ b.depth → a.duplicates ≡ b.duplicates → a ≡ b
mem_of a b s d n =
    ap (λ x. record { scheme = x; depth = a.depth; duplicates = a.duplicates }) s
    ∙ ap (λ x. record { scheme = b.scheme; depth = x; duplicates = a.duplicates }) d
    ∙ ap (λ x. record { scheme = b.scheme; depth = b.depth; duplicates = x }) n

plan_of : (p q : PlainPlan) → p.mems ≡ q.mems → p.nodes ≡ q.nodes → p ≡ q
plan_of p q a b = ap (λ x. record { mems = x; nodes = p.nodes }) a ∙ ap (λ x. record { mems = q.mems; nodes = x }) b

module _ (core : PlainCore) (forms : PlainForms) (meets : List Meet) where
  one_schemes : (p q : PlainPlan) → IsPlanned core forms meets p → IsPlanned core forms meets q → schemes_of p ≡ schemes_of q
  one_schemes p q h k =
      let size : length (schemes_of p) ≡ length (schemes_of q) =
      length-map p.mems (λ (m : PlainMemPlan). m.scheme) ∙ h.memories ∙ sym k.memories ∙ sym (length-map q.mems (λ (m : PlainMemPlan). m.scheme)) in
      ext_get_or None (schemes_of p) (schemes_of q) size (λ m l. one_scheme core forms m (slice_index_or (schemes_of p) m None) (slice_index_or (schemes_of q) m None) (h.schemes m) (k.schemes m))

  one_nodes : (p q : PlainPlan) → IsPlanned core forms meets p → IsPlanned core forms meets q → p.nodes ≡ q.nodes
  one_nodes p q h k =
      let theirs : AreBestPlans core meets (schemes_of p) q.nodes = subst (λ s. AreBestPlans core meets s q.nodes) (sym (one_schemes p q h k)) k.best in
      ext_get_or other_plan p.nodes q.nodes (h.nodes ∙ sym k.nodes)
      (λ n l. let below : n < node_count core.root = omega (arith, l, h.nodes) in
      one_best core meets (schemes_of p) n (slice_index_or p.nodes n other_plan) (slice_index_or q.nodes n other_plan) (h.best n below) (theirs n below))

  has_duplicates : (p : PlainPlan) → IsPlanned core forms meets p → (m : ℕ) → m < length core.mems → (mem_plan p m).duplicates ≡ duplicates core m
  has_duplicates p h m l = eqb-true (mem_plan p m).duplicates (duplicates core m) (all_below (is_duplicated core p) (length core.mems) h.duplicated m l)

  one_mem : (p q : PlainPlan) → IsPlanned core forms meets p → IsPlanned core forms meets q → (m : ℕ) → m < length core.mems → mem_plan p m ≡ mem_plan q m
  one_mem p q h k m l =
      mem_of (mem_plan p m) (mem_plan q m)
      (scheme_in p.mems m ∙ ap (λ s. slice_index_or s m None) (one_schemes p q h k) ∙ sym (scheme_in q.mems m))
      (h.depths m l ∙ ap (λ nodes. depth_of core nodes m) (one_nodes p q h k) ∙ sym (k.depths m l))
      (has_duplicates p h m l ∙ sym (has_duplicates q k m l))

  pub one_plan : (p q : PlainPlan) → IsPlanned core forms meets p → IsPlanned core forms meets q → p ≡ q
  one_plan p q h k =
      plan_of p q
      (ext_get_or no_mem_plan p.mems q.mems (h.memories ∙ sym k.memories) (λ m l. one_mem p q h k m (omega (arith, l, h.memories))))
      (one_nodes p q h k)
