-- What holds of each stage of a list of stages, by recursion and by their numbers.
use Rattle.std.proofs.Common.{ℕ, suc, ◌+◌, ◌<◌, subst, arith}
use Rattle.sp_core.specs.Numbering.{node_count, number_count}
use Rattle.sp_core.specs.PlainCore.{PlainNode, PlainStages, no_stage, more_stage}
use Rattle.sp_plan.specs.Validity.{stage_count}
use Rattle.sp_node_runs.specs.Runs.{stage_at, node_at, number_at}

module _ (P : PlainNode → (node number stage : ℕ) → Type 0) where
  abbrev pub EachStage : PlainStages → (node number stage : ℕ) → Type 0
  EachStage no_stage j n i = Unit {0}
  EachStage (more_stage first last comb node rest) j n i = P node j n i × EachStage rest (j + node_count node) (n + number_count node) (suc i)

  pub each_from : (stages : PlainStages) (j n i : ℕ) → ((m : ℕ) → m < stage_count stages → P (stage_at stages m) (node_at stages j m) (number_at stages n m) (i + m)) → EachStage stages j n i
  each_from no_stage j n i h = tt
  each_from (more_stage first last comb node rest) j n i h = (
    subst (P node j n) {x = i + 0} {y = i} (omega arith) (h 0 (omega arith)),
    each_from rest (j + node_count node) (n + number_count node) (suc i)
        (λ m l. subst (P (stage_at rest m) (node_at rest (j + node_count node) m) (number_at rest (n + number_count node) m)) {x = i + suc m} {y = suc i + m} (omega arith) (h (suc m) (omega (arith, l)))),
  )
