-- The plans of memories, one by one.
use Rattle.std.proofs.Common.{◌≡◌, ℕ, zero, suc, ◌+◌, ◌<◌, List, [], ◌∷◌, ◌++◌, length, map, Option, None, slice_index_or, refl, ap, sym, subst, ◌∙◌, eq-eqb, arith}
use Rattle.sp_bank.specs.Banking.{Banking}
use Rattle.sp_core.specs.declared.access.Meet.{Meet}
use Rattle.sp_core.specs.Forms.{PlainForms}
use Rattle.sp_core.specs.Numbering.{node_count}
use Rattle.sp_core.specs.PlainCore.{PlainCore}
use Rattle.sp_plan.specs.Copies.{duplicates, is_duplicated}
use Rattle.sp_plan.specs.PlainPlan.{PlainMemPlan, no_mem_plan, PlainNodePlan, PlainPlan, mem_plan}
use Rattle.sp_plans.specs.Planned.{AreBestPlans, IsPlanned, mem_by, mems_by}
use Rattle.sp_schemes.specs.Chosen.{AreChosen}
use Rattle.sp_stages.proofs.Below.{all_from}

module _ (core : PlainCore) (nodes : List PlainNodePlan) where
  mem_count : (first : ℕ) (schemes : List (Option Banking)) → length (mems_by core nodes first schemes) ≡ length schemes
  mem_count first [] = refl
  mem_count first (s ∷ schemes) = ap suc (mem_count (first + 1) schemes)

  their_schemes : (first : ℕ) (schemes : List (Option Banking)) → map (λ (m : PlainMemPlan). m.scheme) (mems_by core nodes first schemes) ≡ schemes
  their_schemes first [] = refl
  their_schemes first (s ∷ schemes) = ap (λ xs. s ∷ xs) (their_schemes (first + 1) schemes)

  mem_at : (first : ℕ) (schemes : List (Option Banking)) (k : ℕ) → k < length schemes → slice_index_or (mems_by core nodes first schemes) k no_mem_plan ≡ mem_by core nodes (first + k) (slice_index_or schemes k None)
  mem_at first [] k lt = absurd (omega arith)
  mem_at first (s ∷ schemes) zero lt = let e : first ≡ first + 0 = omega arith in ap (λ m. mem_by core nodes m s) e
  mem_at first (s ∷ schemes) (suc k) lt =
      let e : (first + 1) + k ≡ first + suc k = omega arith in
      mem_at (first + 1) schemes k (omega arith) ∙ ap (λ m. mem_by core nodes m (slice_index_or schemes k None)) e

  -- one memory more
  mems_push : (first : ℕ) (schemes : List (Option Banking)) (s : Option Banking) → mems_by core nodes first (schemes ++ s ∷ []) ≡ mems_by core nodes first schemes ++ mem_by core nodes (first + length schemes) s ∷ []
  mems_push first [] s = let e : first ≡ first + 0 = omega arith in ap (λ m. mem_by core nodes m s ∷ []) e
  mems_push first (t ∷ schemes) s =
      let e : (first + 1) + length schemes ≡ first + suc (length schemes) = omega arith in
      ap (λ xs. mem_by core nodes first t ∷ xs) (mems_push (first + 1) schemes s ∙ ap (λ m. mems_by core nodes (first + 1) schemes ++ mem_by core nodes m s ∷ []) e)

  pub mem_next : (schemes : List (Option Banking)) (s : Option Banking) (mems : List PlainMemPlan) (mine : PlainMemPlan) (m : ℕ) → m ≡ length schemes → mems ≡ mems_by core nodes 0 schemes → mine ≡ mem_by core nodes m s → mems ++ mine ∷ [] ≡ mems_by core nodes 0 (schemes ++ s ∷ [])
  mem_next schemes s mems mine m is before here =
      let e : m ≡ 0 + length schemes = omega arith in
      ap (λ xs. xs ++ mine ∷ []) before
      ∙ ap (λ x. mems_by core nodes 0 schemes ++ x ∷ []) (here ∙ ap (λ i. mem_by core nodes i s) e)
      ∙ sym (mems_push 0 schemes s)

module _ (core : PlainCore) (forms : PlainForms) (meets : List Meet) (nodes : List PlainNodePlan) (schemes : List (Option Banking)) where
  abbrev built : PlainPlan
  built = record { mems = mems_by core nodes 0 schemes; nodes = nodes }

  module _ (count : length schemes ≡ length core.mems) where
    built_at : (m : ℕ) → m < length core.mems → mem_plan built m ≡ mem_by core nodes m (slice_index_or schemes m None)
    built_at m lt = let e : 0 + m ≡ m = omega arith in mem_at core nodes 0 schemes m (omega arith) ∙ ap (λ i. mem_by core nodes i (slice_index_or schemes m None)) e

    planned_by : AreChosen core forms schemes → length nodes ≡ node_count core.root → AreBestPlans core meets schemes nodes → IsPlanned core forms meets built
    planned_by chosen each best =
        let back = sym (their_schemes core nodes 0 schemes) in
        record {
          memories = mem_count core nodes 0 schemes ∙ count;
          nodes = each;
          schemes = subst (AreChosen core forms) back chosen;
          best = subst (λ s. AreBestPlans core meets s nodes) back best;
          depths = λ m lt. ap (λ (p : PlainMemPlan). p.depth) (built_at m lt);
          duplicated = all_from (is_duplicated core built) (length core.mems) (λ m lt. eq-eqb (mem_plan built m).duplicates (duplicates core m) (ap (λ (p : PlainMemPlan). p.duplicates) (built_at m lt)));
        }

    -- a plan with these memories is a chosen one
    pub planned_of : AreChosen core forms schemes → length nodes ≡ node_count core.root → AreBestPlans core meets schemes nodes → (mems : List PlainMemPlan) → mems ≡ mems_by core nodes 0 schemes → IsPlanned core forms meets (record { mems = mems; nodes = nodes })
    planned_of chosen each best mems e = subst (λ ms. IsPlanned core forms meets (record { mems = ms; nodes = nodes })) (sym e) (planned_by chosen each best)
