-- What stands around a branch or an FSM stands around its parts, and they did their runs where the whole did.
use Rattle.std.proofs.Common.{◌≡◌, ℕ, suc, ◌+◌, ◌<◌, ◌≤◌, ◌⊎◌, inl, inr, Bool, true, false, List, [], ◌∷◌, length, map, refl, sym, subst, arith}
use Rattle.std.specs.List.{Contains}
use Rattle.std.proofs.lemmas.List.Elements.{Contains-append_left}
use Rattle.sp_netlist.specs.Signals.{Signals}
use Rattle.sp_core.specs.History.{History, branch_ran}
use Rattle.sp_core.specs.Numbering.{node_count, number_count}
use Rattle.sp_core.specs.PlainCore.{PlainOp, PlainNode, fsm, branch, PlainCore}
use Rattle.sp_core.specs.Scope.{Scope, in_lanes}
use Rattle.sp_plan.specs.PlainPlan.{PlainPlan}
use Rattle.sp_machine.specs.Timeline.{timed}
use Rattle.sp_machine.specs.Transfers.{Delays}
use Rattle.sp_node_runs.specs.Runs.{Placed, AreWithin, over_at, list_took, taken, side_in, side_runs, turn_of, turns_from, body_in, body_runs}
use Rattle.sp_node_runs.specs.BodiesLists.{ListRun}
use Rattle.sp_node_runs.proofs.BodiesListed.{none_there, first_or_later, mapped_from, joined_from}
use Rattle.sp_core.specs.History.{Turns, fsm_ran, no_turn, more_turn}
use Rattle.sp_tree_runs.specs.BodiesDone.{AllDone}
use Rattle.sp_tree_runs.specs.BodiesScoped.{Scoped, with_scope, scoped_sides, scoped_bodies}
use Rattle.sp_tree_runs.specs.BodiesScopes.{test_list}
use Rattle.sp_tree_events.specs.CopiesStanding.{CopyNets, AreNumbered}
use Rattle.sp_owner_runs.specs.Given.{Laws}
use Rattle.sp_owner_runs.specs.Standing.{StandCopies}

-- runs of a part that come within those of a whole
module _ (core : PlainCore) (plan : PlainPlan) (delays : Delays) (node : PlainNode) (k n : ℕ) where
  goes_on : (from until : ℕ) (runs : List Placed) → AreWithin core plan delays node k n from until runs → from ≤ until
  goes_on from until [] h = h
  goes_on from until (r ∷ runs) h = let a = goes_on (over_at core plan delays node k n r) until runs h.1 in let b = h.0 in omega (arith, a, b)

  inside : (from until : ℕ) (runs : List Placed) → AreWithin core plan delays node k n from until runs → (r : Placed) → Contains runs r → (from ≤ r.cycle) × (over_at core plan delays node k n r ≤ until)
  inside from until [] h r c = absurd (none_there r c)
  inside from until (x ∷ runs) h r c = by (first_or_later x r runs c) (inside (over_at core plan delays node k n x) until runs h.1 r)
    where
      by : (x ≡ r) ⊎ Contains runs r → (Contains runs r → (over_at core plan delays node k n x ≤ r.cycle) × (over_at core plan delays node k n r ≤ until)) → (from ≤ r.cycle) × (over_at core plan delays node k n r ≤ until)
      by (inl same) rest = subst (λ (y : Placed). (from ≤ y.cycle) × (over_at core plan delays node k n y ≤ until)) same (h.0, goes_on (over_at core plan delays node k n x) until runs h.1)
      by (inr later) rest = let a = rest later in let b = h.0 in let l = a.0 in (omega (arith, l, b), a.1)

  alone : (r : Placed) → AreWithin core plan delays node k n r.cycle (over_at core plan delays node k n r) (r ∷ [])
  alone r = (omega arith, omega arith)

run_in : (scope : Scope) (runs : List Placed) (q : Scoped) → Contains (with_scope scope runs) q → Contains runs q.run
run_in scope runs q c =
    let x = mapped_from (λ r. record { run = r; scope = scope }) runs q c in
    subst (λ (y : Scoped). Contains runs y.run) x.2 x.1

one_of : {A : Type 0} (P : A → Type 0) (x y : A) → P x → Contains (x ∷ []) y → P y
one_of P x y h c = by (first_or_later x y [] c)
  where
    by : (x ≡ y) ⊎ Contains [] y → P y
    by (inl e) = subst P e h
    by (inr d) = absurd (none_there y d)

module _ (core : PlainCore) (plan : PlainPlan) (delays : Delays) (laws : Laws core plan delays) where
  -- a side has the copies of the branch
  side_copies : (k : ℕ) (test : List PlainOp) (side : Bool) (r : Placed) (h : History) (b : Placed) → Contains (side_in core plan delays test k side r h) b → b.copies ≡ r.copies
  side_copies k test true r (branch_ran es true h) b c = one_of (λ (b : Placed). b.copies ≡ r.copies) (taken core plan delays test k r h) b refl c
  side_copies k test false r (branch_ran es false h) b c = one_of (λ (b : Placed). b.copies ≡ r.copies) (taken core plan delays test k r h) b refl c
  side_copies k test side r h b c = absurd (none_there b c)

  -- and the body of an FSM those of the FSM
  module _ (start test next : List PlainOp) (body : PlainNode) (k n : ℕ) where
    turn_copies : (r : Placed) (t at : ℕ) (ts : Turns) (b : Placed) → Contains (turns_from core plan delays start test next body k n r t at ts) b → b.copies ≡ r.copies
    turn_copies r t at no_turn b c = absurd (none_there b c)
    turn_copies r t at (more_turn es h ns rest) b c =
        by (first_or_later (turn_of core plan delays start test next body k n r t at h) b (turns_from core plan delays start test next body k n r (suc t) (over_at core plan delays body (suc k) (n + (length start + length test)) (turn_of core plan delays start test next body k n r t at h) + list_took core plan delays next) rest) c)
        (turn_copies r (suc t) (over_at core plan delays body (suc k) (n + (length start + length test)) (turn_of core plan delays start test next body k n r t at h) + list_took core plan delays next) rest b)
      where
        by : (turn_of core plan delays start test next body k n r t at h ≡ b) ⊎ Contains (turns_from core plan delays start test next body k n r (suc t) (over_at core plan delays body (suc k) (n + (length start + length test)) (turn_of core plan delays start test next body k n r t at h) + list_took core plan delays next) rest) b
            → (Contains (turns_from core plan delays start test next body k n r (suc t) (over_at core plan delays body (suc k) (n + (length start + length test)) (turn_of core plan delays start test next body k n r t at h) + list_took core plan delays next) rest) b → b.copies ≡ r.copies) → b.copies ≡ r.copies
        by (inl e) more = subst (λ (y : Placed). y.copies ≡ r.copies) e refl
        by (inr d) more = more d

    body_copies : (r : Placed) (h : History) (b : Placed) → Contains (body_in core plan delays start test next body k n r h) b → b.copies ≡ r.copies
    body_copies r (fsm_ran es ts last) b c = turn_copies r 0 _ ts b c
    body_copies r h b c = absurd (none_there b c)

  -- numbers around a branch stand around its sides
  module _ (s : Signals) (k n : ℕ) (ops : List PlainOp) (first second : PlainNode) (qs : List Scoped) (around : CopyNets) (last : ℕ) (stand : StandCopies core plan delays s (branch ops first second) k n qs around last) where
    abbrev whole : PlainNode
    whole = branch ops first second

    side_inside : (side : Bool) (node : PlainNode) (j m : ℕ) → ((r : Placed) → AreWithin core plan delays node j m r.cycle (over_at core plan delays whole k n r) (side_runs core plan delays ops k side (r ∷ []))) → StandCopies core plan delays s node j m (scoped_sides core plan delays ops k side qs) around last
    side_inside side node j m turns q u c low high late =
        let x = joined_from (λ (p : Scoped). with_scope p.scope (side_in core plan delays ops k side p.run p.run.history)) qs q c in
        let y = run_in x.0.scope (side_in core plan delays ops k side x.0.run x.0.run.history) q x.2 in
        let z = inside core plan delays node j m x.0.run.cycle (over_at core plan delays whole k n x.0.run) (side_runs core plan delays ops k side (x.0.run ∷ [])) (turns x.0.run) q.run (Contains-append_left (side_in core plan delays ops k side x.0.run x.0.run.history) [] q.run y) in
        let lo = z.0 in
        let hi = z.1 in
        subst (AreNumbered s u around) (sym (side_copies k ops side x.0.run x.0.run.history q.run y)) (stand x.0 u x.1 (omega (arith, lo, low)) (omega (arith, hi, high)) late)

    pub sides_stand : StandCopies core plan delays s first (suc k) (n + length ops) (scoped_sides core plan delays ops k true qs) around last
        × StandCopies core plan delays s second (suc k + node_count first) (n + (length ops + number_count first)) (scoped_sides core plan delays ops k false qs) around last
    sides_stand = (
      side_inside true first (suc k) (n + length ops) (λ r. (laws.sides_turn k n ops first second r.cycle (over_at core plan delays whole k n r) (r ∷ []) (alone core plan delays whole k n r)).0),
      side_inside false second (suc k + node_count first) (n + (length ops + number_count first)) (λ r. (laws.sides_turn k n ops first second r.cycle (over_at core plan delays whole k n r) (r ∷ []) (alone core plan delays whole k n r)).1),
    )

    -- and around its test
    lasts : (r : Placed) (h : History) (scope : Scope) → AllDone in_lanes whole scope h → suc r.cycle + list_took core plan delays ops ≤ over_at core plan delays whole k n (record r { history = h })
    unfolding timed
    lasts r (branch_ran es true h) scope done = omega arith
    lasts r (branch_ran es false h) scope done = omega arith
    lasts r h scope done = elim done [ ]

    pub test_stands : ((q : Scoped) → Contains qs q → AllDone in_lanes whole q.scope q.run.history) → (l : ListRun) → Contains (map (test_list k) qs) l → (u : ℕ) → l.cycle ≤ u → u < l.cycle + list_took core plan delays ops → u ≤ last → AreNumbered s u around l.copies
    test_stands done l c u low high late =
        let x = mapped_from (test_list k) qs l c in
        let m = lasts x.0.run x.0.run.history x.0.scope (done x.0 x.1) in
        subst (λ (y : ListRun). y.cycle ≤ u → u < y.cycle + list_took core plan delays ops → AreNumbered s u around y.copies) x.2 (λ low high. stand x.0 u x.1 (omega (arith, low)) (omega (arith, m, high)) late) low high

  -- those around an FSM stand around its body
  pub bodies_stand : (s : Signals) (k n : ℕ) (start : List PlainOp) (state : ℕ) (test : List PlainOp) (body : PlainNode) (next : List PlainOp) (qs : List Scoped) (around : CopyNets) (last : ℕ) → StandCopies core plan delays s (fsm start state test body next) k n qs around last
      → StandCopies core plan delays s body (suc k) (n + (length start + length test)) (scoped_bodies core plan delays start test next body k n qs) around last
  bodies_stand s k n start state test body next qs around last stand q u c low high late =
      let whole : PlainNode = fsm start state test body next in
      let x = joined_from (λ (p : Scoped). with_scope p.scope (body_in core plan delays start test next body k n p.run p.run.history)) qs q c in
      let y = run_in x.0.scope (body_in core plan delays start test next body k n x.0.run x.0.run.history) q x.2 in
      let turns = laws.bodies_turn k n start state test body next x.0.run.cycle (over_at core plan delays whole k n x.0.run) (x.0.run ∷ []) (alone core plan delays whole k n x.0.run) in
      let z = inside core plan delays body (suc k) (n + (length start + length test)) x.0.run.cycle (over_at core plan delays whole k n x.0.run) (body_runs core plan delays start test next body k n (x.0.run ∷ [])) turns q.run (Contains-append_left (body_in core plan delays start test next body k n x.0.run x.0.run.history) [] q.run y) in
      let lo = z.0 in
      let hi = z.1 in
      subst (AreNumbered s u around) (sym (body_copies start test next body k n x.0.run x.0.run.history q.run y)) (stand x.0 u x.1 (omega (arith, lo, low)) (omega (arith, hi, high)) late)
