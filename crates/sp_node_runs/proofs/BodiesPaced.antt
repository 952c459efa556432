-- A valid plan paces inner bodies.
use Rattle.std.proofs.Common.{◌≡◌, ℕ, suc, ◌+◌, true, false, List, [], ◌∷◌, length, Option, refl, sym, ◌∙◌, arith}
use Rattle.std.proofs.lemmas.Bool.{and_parts, eqb-true, leb-true, false≢true}
use Rattle.std.specs.Prelude.{max}
use Rattle.sp_core.specs.declared.access.Meet.{Meet}
use Rattle.sp_core.specs.Forms.{PlainForms}
use Rattle.sp_core.specs.Latency.{latency, latency_of_all}
use Rattle.sp_core.specs.Numbering.{counters_size, node_count, number_count}
use Rattle.sp_core.specs.PlainCore.{PlainOp, PlainCounter, PlainNode, PlainStages, inner, outer, fsm, branch, load, store, sparse, no_stage, more_stage, PlainCore}
use Rattle.sp_modulo.specs.Times.{end_of}
use Rattle.sp_plan.specs.Bodies.{latencies}
use Rattle.sp_plan.specs.PlainPlan.{PlainNodePlan, inner_plan, outer_plan, other_plan, PlainPlan, node_plan}
use Rattle.sp_plan.specs.Validity.{is_kind_of, is_timed, kind_rule, time_rule}
use Rattle.sp_overlap.specs.Whole.{IsTimed, AreTimed}
use Rattle.sp_overlap.proofs.Planned.{Holds, AllHold, outer_holds, fsm_holds, branch_holds, stage_holds}
use Rattle.sp_node_runs.specs.Bodies.{IsPaced}
use Rattle.sp_node_runs.specs.BodiesPlanned.{AllPaced, StagesPaced, PlansArePaced}

-- where all is over at once nothing takes time
none_takes : (core : PlainCore) (ops : List PlainOp) (times : List ℕ) → length times ≡ length ops → end_of (latencies core ops) times ≡ 0 → latency_of_all core ops ≡ 0
none_takes core [] times e z = refl
none_takes core (op ∷ ops) [] e z = absurd (omega (arith, e))
none_takes core (op ∷ ops) (t ∷ times) e z =
    let r = none_takes core ops times (omega (arith, e)) (let y : max (t + latency core op) (end_of (latencies core ops) times) ≡ 0 = z in omega (arith, y)) in
    let y : max (t + latency core op) (end_of (latencies core ops) times) ≡ 0 = z in
    omega (arith, r, y)

module _ (core : PlainCore) (forms : PlainForms) (meets : List Meet) (plan : PlainPlan) where
  inner_paced : (p : PlainNodePlan) (counters : List PlainCounter) (owned : List ℕ) (ops : List PlainOp) (comb : Option ℕ) (n : ℕ) → is_kind_of (inner counters owned ops comb) p ≡ true → is_timed core forms meets plan n false (inner counters owned ops comb) p ≡ true → IsPaced core ops p
  inner_paced (inner_plan times ii latency_is serial) counters owned ops comb n h t =
      let many : length times ≡ length ops = eqb-true _ _ h in
      let both = and_parts _ _ (and_parts _ _ t).0 in
      let e : latency_is ≡ end_of (latencies core ops) times = eqb-true _ _ both.1 in
      record { at_once = λ z. none_takes core ops times many (sym e ∙ z); interval = leb-true 1 ii both.0 }
  inner_paced (outer_plan slots chains) counters owned ops comb n h t = absurd (false≢true h)
  inner_paced other_plan counters owned ops comb n h t = absurd (false≢true h)

  mutual
    node_paced : (node : PlainNode) (k n : ℕ) → IsTimed node → Holds (kind_rule core forms meets plan) k n node → Holds (time_rule core forms meets plan) k n node → AllPaced core plan node k
    node_paced (inner counters owned ops comb) k n timed kinds times = inner_paced (node_plan plan k) counters owned ops comb n kinds times
    node_paced (outer counters style owned stages) k n timed kinds times =
        let a = outer_holds (kind_rule core forms meets plan) k n counters style owned stages timed.0 kinds in
        let b = outer_holds (time_rule core forms meets plan) k n counters style owned stages timed.0 times in
        stages_paced stages (suc k) (n + counters_size counters) timed.1 a.1 b.1
    node_paced (fsm start state test body next) k n timed kinds times =
        node_paced body (suc k) (n + (length start + length test)) timed
        (fsm_holds (kind_rule core forms meets plan) k n start state test body next kinds) (fsm_holds (time_rule core forms meets plan) k n start state test body next times)
    node_paced (branch test first second) k n timed kinds times =
        let a = branch_holds (kind_rule core forms meets plan) k n test first second kinds in
        let b = branch_holds (time_rule core forms meets plan) k n test first second times in
        (node_paced first (suc k) (n + length test) timed.0 a.0 b.0, node_paced second (suc k + node_count first) ((n + length test) + number_count first) timed.1 a.1 b.1)
    node_paced (load r m spans) k n timed kinds times = tt
    node_paced (store r m spans) k n timed kinds times = tt
    node_paced (sparse kind r m places spans count par) k n timed kinds times = tt

    stages_paced : (stages : PlainStages) (k n : ℕ) → AreTimed stages → AllHold (kind_rule core forms meets plan) k n stages → AllHold (time_rule core forms meets plan) k n stages → StagesPaced core plan stages k
    stages_paced no_stage k n timed kinds times = tt
    stages_paced (more_stage first last comb node rest) k n timed kinds times =
        let a = stage_holds (kind_rule core forms meets plan) k n first last comb node rest kinds in
        let b = stage_holds (time_rule core forms meets plan) k n first last comb node rest times in
        (node_paced node k n timed.0 a.0 b.0, stages_paced rest (k + node_count node) (n + number_count node) timed.1 a.1 b.1)

pub plans_are_paced : PlansArePaced
plans_are_paced core forms meets plan timed valid = node_paced core forms meets plan core.root 0 0 timed valid.kinds valid.times
