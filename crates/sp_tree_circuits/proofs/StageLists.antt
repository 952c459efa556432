-- What holds of each stage of a list of stages, by recursion and by their numbers.
use Rattle.std.proofs.Common.{ℕ, zero, suc, ◌+◌, ◌<◌, List, subst, arith}
use Rattle.sp_netlist.specs.declared.parts.Child.{Child}
use Rattle.sp_netlist.specs.Signals.{Signals}
use Rattle.sp_core.specs.Around.{Near}
use Rattle.sp_core.specs.Numbering.{node_count, number_count}
use Rattle.sp_core.specs.PlainCore.{PlainNode, PlainStages, no_stage, more_stage, PlainCore}
use Rattle.sp_plan.specs.PlainPlan.{PlainPlan}
use Rattle.sp_plan.specs.Validity.{stage_count}
use Rattle.sp_node_runs.specs.Runs.{stage_at, node_at, number_at}
use Rattle.sp_node_runs.specs.BodiesGiven.{Nets}
use Rattle.sp_tree_circuits.specs.Circuits.{Circuit, StageCircuits}

module _ (P : PlainNode → (node number stage : ℕ) → Type 0) where
  abbrev pub EachStage : PlainStages → (node number stage : ℕ) → Type 0
  EachStage no_stage j n i = Unit {0}
  EachStage (more_stage first last comb node rest) j n i = P node j n i × EachStage rest (j + node_count node) (n + number_count node) (suc i)

  pub each_from : (stages : PlainStages) (j n i : ℕ) → ((m : ℕ) → m < stage_count stages → P (stage_at stages m) (node_at stages j m) (number_at stages n m) (i + m)) → EachStage stages j n i
  each_from no_stage j n i h = tt
  each_from (more_stage first last comb node rest) j n i h = (
    subst (P node j n) {x = i + 0} {y = i} (omega arith) (h 0 (omega arith)),
    each_from rest (j + node_count node) (n + number_count node) (suc i)
        (λ m l. subst (P (stage_at rest m) (node_at rest (j + node_count node) m) (number_at rest (n + number_count node) m)) {x = i + suc m} {y = suc i + m} (omega arith) (h (suc m) (omega (arith, l)))),
  )

  pub stage_from : (stages : PlainStages) (j n i : ℕ) → EachStage stages j n i → (m : ℕ) → m < stage_count stages → P (stage_at stages m) (node_at stages j m) (number_at stages n m) (i + m)
  stage_from no_stage j n i h m l = absurd (omega (arith, l))
  stage_from (more_stage first last comb node rest) j n i h zero l = subst (P node j n) {x = i} {y = i + 0} (omega arith) h.0
  stage_from (more_stage first last comb node rest) j n i h (suc m) l =
      subst (P (stage_at rest m) (node_at rest (j + node_count node) m) (number_at rest (n + number_count node) m)) {x = suc i + m} {y = i + suc m} (omega arith)
      (stage_from rest (j + node_count node) (n + number_count node) (suc i) h.1 m (omega (arith, l)))

-- the same of the circuits of stages
module _ (core : PlainCore) (plan : PlainPlan) (s : Signals) (near : List Near) (nets : (stage : ℕ) → Nets) (child : (stage : ℕ) → Child) where
  module _ (P : (node : PlainNode) (j n i : ℕ) → Circuit core plan s node near (nets i) j (child i) → Type 0) where
    abbrev pub EachCircuit : (stages : PlainStages) (j n i : ℕ) → StageCircuits core plan s stages near j i nets child → Type 0
    EachCircuit no_stage j n i w = Unit {0}
    EachCircuit (more_stage first last comb node rest) j n i w = P node j n i w.0 × EachCircuit rest (j + node_count node) (n + number_count node) (suc i) w.1

  module _ (P : (node : PlainNode) (j n i : ℕ) → Circuit core plan s node near (nets i) j (child i) → Type 0) (F : PlainNode → (node number stage : ℕ) → Type 0) (D : PlainNode → (node number stage : ℕ) → Type 0)
      (step : (node : PlainNode) (j n i : ℕ) (w : Circuit core plan s node near (nets i) j (child i)) → P node j n i w → F node j n i → D node j n i) where
    pub both_give : (stages : PlainStages) (j n i : ℕ) (w : StageCircuits core plan s stages near j i nets child) → EachCircuit P stages j n i w → EachStage F stages j n i → EachStage D stages j n i
    both_give no_stage j n i w p f = tt
    both_give (more_stage first last comb node rest) j n i w p f = (step node j n i w.0 p.0 f.0, both_give rest (j + node_count node) (n + number_count node) (suc i) w.1 p.1 f.1)
