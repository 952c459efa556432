-- The times of an inner body, by the schemes of plain plans.
use Rattle.std.proofs.Common.{◌≡◌, ℕ, ◌+◌, Bool, List, [], ◌∷◌, map, Option, refl, sym, ap, ◌∙◌}
use Rattle.sp_core.specs.declared.access.Meet.{Meet}
use Rattle.sp_core.specs.Forms.{PlainForms}
use Rattle.sp_core.specs.Numbering.{counters_size}
use Rattle.sp_core.specs.PlainCore.{PlainOp, PlainCounter, PlainNode, inner, PlainCore}
use Rattle.sp_plan.specs.Bodies.{are_times_right}
use Rattle.sp_plan.specs.declared.plan.MemPlan.{MemPlan}
use Rattle.sp_plan.specs.declared.plan.NodePlan.{NodePlan}
use Rattle.sp_plan.specs.Plain.{plain_mem_plan, schemes_in}
use Rattle.sp_plan.specs.PlainPlan.{PlainMemPlan, PlainNodePlan, inner_plan}
use Rattle.sp_plan.specs.Validity.{schemes_of, is_timed}
use Rattle.sp_valid.specs.Plans.{plan_of}

schemes_same : (mems : List MemPlan) → map (λ (m : PlainMemPlan). m.scheme) (map plain_mem_plan mems) ≡ schemes_in mems
schemes_same [] = refl
schemes_same (m ∷ mems) = ap (λ r. m.scheme ∷ r) (schemes_same mems)

module _ (core : PlainCore) (forms : PlainForms) (meets : List Meet) (mems : List MemPlan) (nodes : List NodePlan) where
  pub timed_is : (n first : ℕ) (streamed : Bool) (node : PlainNode) (p : PlainNodePlan)
      (counters : List PlainCounter) (owned : List ℕ) (ops : List PlainOp) (comb : Option ℕ) (times : List ℕ) (ii latency : ℕ) (serial result : Bool)
      → node ≡ inner counters owned ops comb → p ≡ inner_plan times ii latency serial → first ≡ n + counters_size counters
      → result ≡ are_times_right core (schemes_in mems) meets first streamed ops times ii latency serial
      → result ≡ is_timed core forms meets (plan_of mems nodes) n streamed node p
  timed_is n first st node p counters owned ops comb times ii latency serial result e f g h =
      h
      ∙ ap (λ s. are_times_right core s meets first st ops times ii latency serial) (sym (schemes_same mems))
      ∙ ap (λ k. are_times_right core (schemes_of (plan_of mems nodes)) meets k st ops times ii latency serial) g
      ∙ ap (λ x. is_timed core forms meets (plan_of mems nodes) n st x (inner_plan times ii latency serial)) (sym e)
      ∙ ap (λ x. is_timed core forms meets (plan_of mems nodes) n st node x) (sym f)
