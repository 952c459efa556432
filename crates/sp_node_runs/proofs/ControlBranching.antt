-- Branches over the runs of their nodes.
use Rattle.std.proofs.Common.{◌≡◌, ℕ, suc, ◌+◌, ◌≤◌, true, false, List, [], ◌∷◌, ◌++◌, map, length, refl, sym, ◌∙◌, ap, subst, arith}
use Rattle.std.specs.List.{Contains}
use Rattle.sp_gates.specs.Tested.{is_on}
use Rattle.sp_part_runs.specs.BodiesRuns.{IsOnAt}
use Rattle.sp_part_runs.specs.ControlLaws.{BranchesWork}
use Rattle.sp_part_runs.specs.ControlBranches.{BranchRan, test_run, part_runs, whole_run}
use Rattle.sp_part_runs.specs.ControlParts.{Tested, Begins, Ends, runs_of}
use Rattle.sp_core.specs.History.{History, branch_ran, inner_ran, outer_ran, fsm_ran, moved, picked}
use Rattle.sp_core.specs.Numbering.{node_count, number_count}
use Rattle.sp_core.specs.PlainCore.{PlainOp, PlainNode, branch, PlainCore}
use Rattle.sp_plan.specs.PlainPlan.{PlainPlan}
use Rattle.sp_machine.specs.Timeline.{timed}
use Rattle.sp_machine.specs.Transfers.{Delays}
use Rattle.sp_node_runs.specs.Runs.{Placed, told, list_took, taken, side_in, side_runs}
use Rattle.sp_node_runs.specs.ControlLaws.{BranchesOfNodesWork}
use Rattle.sp_node_runs.specs.ControlRuns.{ran_of, rans, IsBranch, AreBranches, branch_of}

module _ (core : PlainCore) (plan : PlainPlan) (delays : Delays) where
  module _ (k n : ℕ) (ops : List PlainOp) (first second : PlainNode) where
    abbrev bs : List Placed → List BranchRan
    bs runs = map (branch_of core plan delays k n ops first second) runs

    pub tests_same : (runs : List Placed) → map test_run (bs runs) ≡ map (λ r. test_run (branch_of core plan delays k n ops first second r)) runs
    tests_same [] = refl
    tests_same (r ∷ runs) = ap (λ rest. test_run (branch_of core plan delays k n ops first second r) ∷ rest) (tests_same runs)

    whole_one : (r : Placed) (h : History) → IsBranch core plan delays h → whole_run (branch_of core plan delays k n ops first second (record r { history = h })) ≡ ran_of core plan delays (branch ops first second) k n (record r { history = h })
    unfolding timed
    whole_one r (branch_ran es true h) b = refl
    whole_one r (branch_ran es false h) b = refl
    whole_one r (inner_ran _ counts groups) b = elim b [ ]
    whole_one r (outer_ran _ counts _) b = elim b [ ]
    whole_one r (fsm_ran start _ last_test) b = elim b [ ]
    whole_one r (moved _ words) b = elim b [ ]
    whole_one r (picked count _) b = elim b [ ]

    pub wholes_same : (runs : List Placed) → AreBranches core plan delays runs → map whole_run (bs runs) ≡ rans core plan delays (branch ops first second) k n runs
    wholes_same [] h = refl
    wholes_same (r ∷ runs) h = ap (λ x. x ∷ map whole_run (bs runs)) (whole_one r r.history h.0) ∙ ap (λ rest. ran_of core plan delays (branch ops first second) k n r ∷ rest) (wholes_same runs h.1)

    -- of one run and those behind it
    first_one : (r : Placed) (h : History) (rest : List BranchRan) (sides : List Placed) → part_runs true rest ≡ rans core plan delays first (suc k) (n + length ops) sides
        → part_runs true (branch_of core plan delays k n ops first second (record r { history = h }) ∷ rest) ≡ rans core plan delays first (suc k) (n + length ops) (side_in core plan delays ops k true r h ++ sides)
    first_one r (branch_ran es true h) rest sides e =
        ap (λ c. record { cycle = c; took = (told core plan delays first (suc k) (n + length ops) (taken core plan delays ops k r h)).took } ∷ part_runs true rest) {x = suc r.cycle + list_took core plan delays ops} {y = r.cycle + (1 + list_took core plan delays ops)} (omega arith)
        ∙ ap (λ more. ran_of core plan delays first (suc k) (n + length ops) (taken core plan delays ops k r h) ∷ more) e
    first_one r (branch_ran es false h) rest sides e = e
    first_one r h rest sides e = e

    pub firsts_same : (runs : List Placed) → part_runs true (bs runs) ≡ rans core plan delays first (suc k) (n + length ops) (side_runs core plan delays ops k true runs)
    firsts_same [] = refl
    firsts_same (r ∷ runs) = first_one r r.history (bs runs) (side_runs core plan delays ops k true runs) (firsts_same runs)

    second_one : (r : Placed) (h : History) (rest : List BranchRan) (sides : List Placed) → IsBranch core plan delays h → part_runs false rest ≡ rans core plan delays second (suc k + node_count first) (n + (length ops + number_count first)) sides
        → part_runs false (branch_of core plan delays k n ops first second (record r { history = h }) ∷ rest) ≡ rans core plan delays second (suc k + node_count first) (n + (length ops + number_count first)) (side_in core plan delays ops k false r h ++ sides)
    second_one r (branch_ran es false h) rest sides b e =
        ap (λ c. record { cycle = c; took = (told core plan delays second (suc k + node_count first) (n + (length ops + number_count first)) (taken core plan delays ops k r h)).took } ∷ part_runs false rest) {x = suc r.cycle + list_took core plan delays ops} {y = r.cycle + (1 + list_took core plan delays ops)} (omega arith)
        ∙ ap (λ more. ran_of core plan delays second (suc k + node_count first) (n + (length ops + number_count first)) (taken core plan delays ops k r h) ∷ more) e
    second_one r (branch_ran es true h) rest sides b e = e
    second_one r (inner_ran _ counts groups) rest sides b e = elim b [ ]
    second_one r (outer_ran _ counts _) rest sides b e = elim b [ ]
    second_one r (fsm_ran start _ last_test) rest sides b e = elim b [ ]
    second_one r (moved _ words) rest sides b e = elim b [ ]
    second_one r (picked count _) rest sides b e = elim b [ ]

    pub seconds_same : (runs : List Placed) → AreBranches core plan delays runs → part_runs false (bs runs) ≡ rans core plan delays second (suc k + node_count first) (n + (length ops + number_count first)) (side_runs core plan delays ops k false runs)
    seconds_same [] h = refl
    seconds_same (r ∷ runs) h = second_one r r.history (bs runs) (side_runs core plan delays ops k false runs) h.0 (seconds_same runs h.1)

  pub branches_of_nodes_work : BranchesWork → BranchesOfNodesWork core plan delays
  branches_of_nodes_work work s start test tested chosen left done last k n ops first second runs circuit are does tells goes turns t le started =
      let a = tests_same k n ops first second runs in
      let b = wholes_same k n ops first second runs are in
      let c = firsts_same k n ops first second runs in
      let d = seconds_same k n ops first second runs are in
      let w = work s start test tested chosen left done t (bs k n ops first second runs) circuit
      (subst (λ xs. IsOnAt (is_on s start) (Begins xs) t) (sym b) started)
      (λ u h. subst (λ xs. IsOnAt (is_on s test.start) (Begins (runs_of xs)) u → IsOnAt (is_on s test.done) (Ends (runs_of xs)) u) (sym a) (does u (omega (arith, h, le))))
      (λ u h. subst (λ xs. IsOnAt (is_on s test.start) (Begins (runs_of xs)) u → (e : Tested) (c : ℕ) → Contains xs e → suc c ≡ e.run.cycle + e.run.took → c ≤ u → is_on s tested c ≡ e.goes) (sym a) (tells u (omega (arith, h, le))))
      (λ u h. subst (λ xs. IsOnAt (is_on s chosen.start) (Begins xs) u → IsOnAt (is_on s chosen.done) (Ends xs) u) (sym c) (goes u (omega (arith, h, le))))
      (λ u h. subst (λ xs. IsOnAt (is_on s left.start) (Begins xs) u → IsOnAt (is_on s left.done) (Ends xs) u) (sym d) (turns u (omega (arith, h, le)))) in
      record {
        tests = subst (λ xs. IsOnAt (is_on s test.start) (Begins (runs_of xs)) t) a w.tests;
        goes = subst (λ xs. IsOnAt (is_on s chosen.start) (Begins xs) t) c w.goes;
        turns = subst (λ xs. IsOnAt (is_on s left.start) (Begins xs) t) d w.turns;
        ends = subst (λ xs. IsOnAt (is_on s done) (Ends xs) t) b w.ends;
      }
