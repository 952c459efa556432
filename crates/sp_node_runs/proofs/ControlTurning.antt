-- FSMs over the runs of their nodes.
use Rattle.std.proofs.Common.{◌≡◌, ℕ, suc, ◌+◌, List, [], ◌∷◌, ◌++◌, map, length, refl, sym, ◌∙◌, ap, subst, arith}
use Rattle.sp_gates.specs.Tested.{is_on}
use Rattle.sp_part_runs.specs.BodiesRuns.{IsOnAt}
use Rattle.sp_part_runs.specs.ControlLaws.{MachinesWork}
use Rattle.sp_part_runs.specs.ControlMachines.{MachineRan, turns_took, whole_run, first_run, bodies_from, bodies_of, bodies}
use Rattle.sp_part_runs.specs.ControlParts.{Begins, Ends}
use Rattle.sp_core.specs.History.{Entry, History, Turns, branch_ran, inner_ran, outer_ran, fsm_ran, moved, picked, no_turn, more_turn}
use Rattle.sp_core.specs.PlainCore.{PlainOp, PlainNode, fsm, PlainCore}
use Rattle.sp_plan.specs.PlainPlan.{PlainPlan}
use Rattle.sp_machine.specs.Timeline.{timed, turn_runs}
use Rattle.sp_machine.specs.Transfers.{Delays}
use Rattle.sp_node_runs.specs.Runs.{Placed, told, over_at, list_took, turn_of, turns_from, body_in, body_runs}
use Rattle.sp_node_runs.specs.ControlLaws.{MachinesOfNodesWork}
use Rattle.sp_node_runs.specs.ControlRuns.{ran_of, rans, IsMachine, AreMachines, turns_of, machine_of}

mapped_both : {A B : Type 0} (f : A → B) (xs ys : List A) → map f (xs ++ ys) ≡ map f xs ++ map f ys
mapped_both f [] ys = refl
mapped_both f (x ∷ xs) ys = ap (λ rest. f x ∷ rest) (mapped_both f xs ys)

mapped_twice : {A B C : Type 0} (f : B → C) (g : A → B) (xs : List A) → map f (map g xs) ≡ map (λ x. f (g x)) xs
mapped_twice f g [] = refl
mapped_twice f g (x ∷ xs) = ap (λ rest. f (g x) ∷ rest) (mapped_twice f g xs)

module _ (core : PlainCore) (plan : PlainPlan) (delays : Delays) (k n : ℕ) (start : List PlainOp) (state : ℕ) (ops : List PlainOp) (node : PlainNode) (after : List PlainOp) where
  abbrev m : ℕ
  m = n + (length start + length ops)

  abbrev machine : Placed → MachineRan
  machine r = machine_of core plan delays k n start ops node after r

  -- the bodies of turns, from a cycle on
  turn_bodies : (r : Placed) (ts : Turns) (t c : ℕ) → bodies_from c (turns_of core plan delays k n start ops node after r t ts) ≡ rans core plan delays node (suc k) m (turns_from core plan delays start ops after node k n r t c ts)
  turn_bodies r no_turn t c = refl
  turn_bodies r (more_turn es h ns rest) t c =
      ap (λ more. ran_of core plan delays node (suc k) m (turn_of core plan delays start ops after node k n r t c h) ∷ more)
      (turn_bodies r rest (suc t) (over_at core plan delays node (suc k) m (turn_of core plan delays start ops after node k n r t c h) + list_took core plan delays after))

  bodies_one : (r : Placed) (h : History) → bodies_of (machine (record r { history = h })) ≡ rans core plan delays node (suc k) m (body_in core plan delays start ops after node k n r h)
  bodies_one r (fsm_ran first ts last) =
      ap (λ c. bodies_from c (turns_of core plan delays k n start ops node after r 0 ts)) {x = suc r.cycle + list_took core plan delays start} {y = r.cycle + (1 + list_took core plan delays start)} (omega arith) ∙ turn_bodies r ts 0 (r.cycle + (1 + list_took core plan delays start))
  bodies_one r h = refl

  bodies_same : (runs : List Placed) → bodies (map machine runs) ≡ rans core plan delays node (suc k) m (body_runs core plan delays start ops after node k n runs)
  bodies_same [] = refl
  bodies_same (r ∷ runs) =
      ap (λ xs. xs ++ bodies (map machine runs)) (bodies_one r r.history) ∙ ap (λ xs. rans core plan delays node (suc k) m (body_in core plan delays start ops after node k n r r.history) ++ xs) (bodies_same runs)
      ∙ sym (mapped_both (ran_of core plan delays node (suc k) m) (body_in core plan delays start ops after node k n r r.history) (body_runs core plan delays start ops after node k n runs))

  turn_took : (r : Placed) (ts : Turns) (last : List Entry) (t : ℕ) → turns_took (turns_of core plan delays k n start ops node after r t ts) (list_took core plan delays ops) ≡ (turn_runs core plan delays start state ops node after k n t r.standing r.copies ts last).took
  unfolding turn_runs
  turn_took r no_turn last t = refl
  turn_took r (more_turn es h ns rest) last t =
      ap (λ w. list_took core plan delays ops + ((told core plan delays node (suc k) m (turn_of core plan delays start ops after node k n r t 0 h)).took + (list_took core plan delays after + w))) (turn_took r rest last (suc t))

  whole_one : (r : Placed) (h : History) → IsMachine core plan delays h → whole_run (machine (record r { history = h })) ≡ ran_of core plan delays (fsm start state ops node after) k n (record r { history = h })
  unfolding timed
  whole_one r (fsm_ran first ts last) b = ap (λ w. record { cycle = r.cycle; took = 2 + (list_took core plan delays start + w) }) (turn_took r ts last 0)
  whole_one r (branch_ran _ side h) b = elim b [ ]
  whole_one r (inner_ran _ counts groups) b = elim b [ ]
  whole_one r (outer_ran _ counts _) b = elim b [ ]
  whole_one r (moved _ words) b = elim b [ ]
  whole_one r (picked count _) b = elim b [ ]

  wholes_same : (runs : List Placed) → AreMachines core plan delays runs → map whole_run (map machine runs) ≡ rans core plan delays (fsm start state ops node after) k n runs
  wholes_same [] h = refl
  wholes_same (r ∷ runs) h = ap (λ x. x ∷ map whole_run (map machine runs)) (whole_one r r.history h.0) ∙ ap (λ rest. ran_of core plan delays (fsm start state ops node after) k n r ∷ rest) (wholes_same runs h.1)

pub machines_of_nodes_work : (core : PlainCore) (plan : PlainPlan) (delays : Delays) → MachinesWork → MachinesOfNodesWork core plan delays
machines_of_nodes_work core plan delays work s starts first test tested body next done last k n start state ops node after runs circuit are begins does tells goes steps t le started =
    let ms : List MachineRan = map (machine core plan delays k n start state ops node after) runs in
    let a = mapped_twice first_run (machine core plan delays k n start state ops node after) runs in
    let b = wholes_same core plan delays k n start state ops node after runs are in
    let c = bodies_same core plan delays k n start state ops node after runs in
    let w = work s starts first test tested body next done t ms circuit
    (subst (λ xs. IsOnAt (is_on s starts) (Begins xs) t) (sym b) started)
    (λ u h. subst (λ xs. IsOnAt (is_on s first.start) (Begins xs) u → IsOnAt (is_on s first.done) (Ends xs) u) (sym a) (begins u (omega (arith, h, le))))
    (λ u h. does u (omega (arith, h, le)))
    (λ u h. tells u (omega (arith, h, le)))
    (λ u h. subst (λ xs. IsOnAt (is_on s body.start) (Begins xs) u → IsOnAt (is_on s body.done) (Ends xs) u) (sym c) (goes u (omega (arith, h, le))))
    (λ u h. steps u (omega (arith, h, le))) in
    record {
      begins = subst (λ xs. IsOnAt (is_on s first.start) (Begins xs) t) a w.begins;
      tested = w.tested;
      goes = subst (λ xs. IsOnAt (is_on s body.start) (Begins xs) t) c w.goes;
      steps = w.steps;
      ends = subst (λ xs. IsOnAt (is_on s done) (Ends xs) t) b w.ends;
    }
