-- So it is of each inner body of a core, in a valid plan.
use Rattle.std.proofs.Common.{◌≡◌, ℕ, suc, ◌+◌, ◌<◌, ◌^◌, true, false, List, [], ◌∷◌, ◌++◌, length, sym, subst}
use Rattle.std.proofs.lemmas.Bool.{and_parts}
use Rattle.std.specs.Prelude.{Option}
use Rattle.sp_core.specs.declared.access.Meet.{Meet}
use Rattle.sp_core.specs.Around.{Around, nothing, within}
use Rattle.sp_core.specs.Forms.{PlainForms}
use Rattle.sp_core.specs.Invariant.{IsRight, AreRight, owned_in}
use Rattle.sp_core.specs.NodeRules.{with_state, is_node_right, are_counters_right}
use Rattle.sp_core.specs.Numbering.{counters_size, node_count, number_count}
use Rattle.sp_core.specs.OperationRules.{are_operations_right}
use Rattle.sp_core.specs.PlainCore.{PlainOp, PlainCounter, PlainNode, PlainStages, inner, outer, fsm, branch, load, store, sparse, no_stage, more_stage, PlainCore}
use Rattle.sp_plan.specs.PlainPlan.{PlainPlan, node_plan}
use Rattle.sp_plan.specs.Validity.{schemes_of, is_timed, kind_rule, time_rule}
use Rattle.sp_machine.specs.Timeline.{latency_of}
use Rattle.sp_overlap.specs.Whole.{IsTimed, AreTimed}
use Rattle.sp_overlap.proofs.Planned.{Holds, AllHold, outer_holds, fsm_holds, branch_holds, stage_holds, InnerPlan, inner_plan_of}
use Rattle.sp_plan_times.specs.Times.{HasTime, AllHaveTime, StagesHaveTime, PlansLeaveTime}
use Rattle.sp_plan_times.proofs.Leaving.{leaves}

module _ (core : PlainCore) (forms : PlainForms) (meets : List Meet) (plan : PlainPlan) (small : (k : ℕ) → latency_of (node_plan plan k) < 2 ^ 32) where
  inner_has : (k n : ℕ) (around : Around) (counters : List PlainCounter) (owned : List ℕ) (ops : List PlainOp) (comb : Option ℕ) → are_operations_right core (within around counters owned) ops ≡ true → InnerPlan (node_plan plan k) (length ops)
      → is_timed core forms meets plan n false (inner counters owned ops comb) (node_plan plan k) ≡ true → HasTime core ops (node_plan plan k)
  inner_has k n around counters owned ops comb right p timed =
      subst (HasTime core ops) (sym p.is)
      (leaves core (schemes_of plan) meets (n + counters_size counters) ops p.times p.ii (within around counters owned) right p.many p.latency_is (subst (λ q. latency_of q < 2 ^ 32) p.is (small k)) p.serial
      (subst (λ q. is_timed core forms meets plan n false (inner counters owned ops comb) q ≡ true) p.is timed))

  mutual
    node_has : (node : PlainNode) (k n : ℕ) (around : Around) (earlier : List ℕ) → IsRight core around earlier node → IsTimed node → Holds (kind_rule core forms meets plan) k n node → Holds (time_rule core forms meets plan) k n node → AllHaveTime core plan node k
    node_has (inner counters owned ops comb) k n around earlier right timed kinds times =
        inner_has k n around counters owned ops comb (and_parts (are_counters_right core around counters) _ (and_parts (is_node_right core around (inner counters owned ops comb)) _ right).0).1
        (inner_plan_of (node_plan plan k) counters owned ops comb kinds) times
    node_has (outer counters style owned stages) k n around earlier right timed kinds times =
        let a = outer_holds (kind_rule core forms meets plan) k n counters style owned stages timed.0 kinds in
        let b = outer_holds (time_rule core forms meets plan) k n counters style owned stages timed.0 times in
        stages_have stages (suc k) (n + counters_size counters) (within around counters owned) (earlier ++ owned) right.1 timed.1 a.1 b.1
    node_has (fsm start state test body next) k n around earlier right timed kinds times =
        node_has body (suc k) (n + (length start + length test)) (with_state core around state) (earlier ++ state ∷ []) right.1 timed
        (fsm_holds (kind_rule core forms meets plan) k n start state test body next kinds) (fsm_holds (time_rule core forms meets plan) k n start state test body next times)
    node_has (branch test first second) k n around earlier right timed kinds times =
        let a = branch_holds (kind_rule core forms meets plan) k n test first second kinds in
        let b = branch_holds (time_rule core forms meets plan) k n test first second times in (
          node_has first (suc k) (n + length test) around earlier right.1 timed.0 a.0 b.0,
          node_has second (suc k + node_count first) ((n + length test) + number_count first) around (earlier ++ owned_in first) right.2 timed.1 a.1 b.1,
        )
    node_has (load r m spans) k n around earlier right timed kinds times = tt
    node_has (store r m spans) k n around earlier right timed kinds times = tt
    node_has (sparse kind r m places spans count par) k n around earlier right timed kinds times = tt

    stages_have : (stages : PlainStages) (k n : ℕ) (around : Around) (earlier : List ℕ) → AreRight core around earlier stages → AreTimed stages → AllHold (kind_rule core forms meets plan) k n stages → AllHold (time_rule core forms meets plan) k n stages → StagesHaveTime core plan stages k
    stages_have no_stage k n around earlier right timed kinds times = tt
    stages_have (more_stage first last comb node rest) k n around earlier right timed kinds times =
        let a = stage_holds (kind_rule core forms meets plan) k n first last comb node rest kinds in
        let b = stage_holds (time_rule core forms meets plan) k n first last comb node rest times in
        (node_has node k n around earlier right.0 timed.0 a.0 b.0, stages_have rest (k + node_count node) (n + number_count node) around (earlier ++ owned_in node) right.1 timed.1 a.1 b.1)

pub plans_leave_time : PlansLeaveTime
plans_leave_time core forms meets plan is timed valid small = node_has core forms meets plan small core.root 0 0 nothing [] is.nodes timed valid.kinds valid.times
