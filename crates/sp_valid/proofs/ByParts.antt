-- A plan is right by its parts where each test of them says so.
use Rattle.std.proofs.Common.{◌≡◌, ℕ, ◌<◌, Bool, true, false, IsTrue, ◌↔◌, List, length, map, sym, ap, ◌∙◌, subst}
use Rattle.std.proofs.lemmas.Bool.{false≢true}
use Rattle.std.proofs.lemmas.List.{length-map, get_or-map}
use Rattle.std.specs.Prelude.{slice_index_or}
use Rattle.sp_core.specs.declared.access.Meet.{Meet}
use Rattle.sp_core.specs.Forms.{PlainForms}
use Rattle.sp_core.specs.Numbering.{node_count}
use Rattle.sp_core.specs.PlainCore.{PlainCore}
use Rattle.sp_depths.specs.Depths.{depth_of}
use Rattle.sp_plan.specs.Copies.{duplicates}
use Rattle.sp_plan.specs.declared.plan.MemPlan.{MemPlan}
use Rattle.sp_plan.specs.declared.plan.NodePlan.{NodePlan}
use Rattle.sp_plan.specs.Plain.{plain_mem_plan, plain_node_plan}
use Rattle.sp_plan.specs.PlainPlan.{no_mem_plan}
use Rattle.sp_plans.specs.Parts.{IsServed, IsNodeRight, IsMemRight, IsRightByParts}
use Rattle.sp_valid.specs.Plans.{plan_of}

-- a test that says no, of what a fact gives
pub no_wrong : {A B : Type 0} (b : Bool) → b ≡ false → IsTrue b ↔ A → (B → A) → IsTrue false ↔ B
no_wrong b e h f = (λ t. absurd (false≢true t), λ x. absurd (false≢true (sym e ∙ h.1 (f x))))

pub told : {A : Type 0} (b : Bool) → b ≡ true → IsTrue b ↔ A → A
told b e h = h.0 e

pub told_not : {A : Type 0} (b : Bool) → b ≡ false → IsTrue b ↔ A → A → ⊥
told_not b e h a = false≢true (sym e ∙ h.1 a)

-- of a memory
pub three : {A B C : Type 0} (b : Bool) → B → C → IsTrue b ↔ A → IsTrue b ↔ (A × (B × C))
three b x y h = (λ t. (h.0 t, (x, y)), λ p. h.1 p.0)

module _ (core : PlainCore) (forms : PlainForms) (meets : List Meet) (mems : List MemPlan) (nodes : List NodePlan) where
  pub mem_is : (m : ℕ) (p : MemPlan) → m < length mems → p ≡ slice_index_or mems m p → slice_index_or (map plain_mem_plan mems) m no_mem_plan ≡ plain_mem_plan p
  mem_is m p lt e = get_or-map plain_mem_plan mems m p no_mem_plan lt ∙ ap plain_mem_plan (sym e)

  pub mem_right : (m : ℕ) (p : MemPlan) (b : Bool) → slice_index_or (map plain_mem_plan mems) m no_mem_plan ≡ plain_mem_plan p
      → IsTrue b ↔ (IsServed core forms m p.scheme × ((p.depth ≡ depth_of core (map plain_node_plan nodes) m) × (p.duplicates ≡ duplicates core m)))
      → IsTrue b ↔ IsMemRight core forms meets (plan_of mems nodes) m
  mem_right m p b e h = (
    λ t.
        let r = h.0 t in
        record {
          scheme = subst (λ x. IsServed core forms m x.scheme) (sym e) r.0;
          depth = ap (λ x. x.depth) e ∙ r.1.0;
          duplicates = ap (λ x. x.duplicates) e ∙ r.1.1;
        },
    λ r. h.1 (subst (λ x. IsServed core forms m x.scheme) e r.scheme, (sym (ap (λ x. x.depth) e) ∙ r.depth, sym (ap (λ x. x.duplicates) e) ∙ r.duplicates)),
  )

  pub few_mems : IsRightByParts core forms meets (plan_of mems nodes) → length mems ≡ length core.mems
  few_mems r = sym (length-map mems plain_mem_plan) ∙ r.memories

  pub few_nodes : IsRightByParts core forms meets (plan_of mems nodes) → length nodes ≡ node_count core.root
  few_nodes r = sym (length-map nodes plain_node_plan) ∙ r.nodes

  pub all_parts : (b : Bool) → length mems ≡ length core.mems → length nodes ≡ node_count core.root
      → ((k : ℕ) → k < node_count core.root → IsNodeRight core forms meets (plan_of mems nodes) k)
      → IsTrue b ↔ ((m : ℕ) → m < length core.mems → IsMemRight core forms meets (plan_of mems nodes) m)
      → IsTrue b ↔ IsRightByParts core forms meets (plan_of mems nodes)
  all_parts b ms ns each h = (
    λ t. record {
      memories = length-map mems plain_mem_plan ∙ ms;
      nodes = length-map nodes plain_node_plan ∙ ns;
      each_node = each;
      each_mem = h.0 t;
    },
    λ r. h.1 r.each_mem,
  )
