-- The lists of an FSM in its runs: each lies within the run of the whole, with the same copies at hand.
use Rattle.std.proofs.Common.{◌≡◌, ℕ, zero, suc, ◌+◌, ◌<◌, ◌≤◌, ◌⊎◌, inl, inr, List, [], ◌∷◌, map, refl, sym, subst, arith}
use Rattle.std.specs.List.{Contains}
use Rattle.sp_netlist.specs.Signals.{Signals}
use Rattle.sp_core.specs.History.{Entry, History, Turns, fsm_ran, no_turn, more_turn}
use Rattle.sp_core.specs.PlainCore.{PlainOp, PlainNode, fsm, PlainCore}
use Rattle.sp_core.specs.Scope.{Scope, in_lanes}
use Rattle.sp_plan.specs.PlainPlan.{PlainPlan}
use Rattle.sp_machine.specs.Timeline.{timed, turn_runs}
use Rattle.sp_machine.specs.Transfers.{Delays}
use Rattle.sp_node_runs.specs.Runs.{Placed, over_at, list_took}
use Rattle.sp_node_runs.specs.BodiesLists.{ListRun}
use Rattle.sp_node_runs.proofs.BodiesListed.{none_there, first_or_later, mapped_from, joined_from}
use Rattle.sp_tree_runs.specs.BodiesDone.{AllDone}
use Rattle.sp_tree_runs.specs.BodiesScoped.{Scoped, AllAreDone}
use Rattle.sp_tree_runs.specs.BodiesTurns.{start_list, body_took, list_in_turn, tests_in, nexts_in, test_lists_in, next_lists_in, test_lists, next_lists}
use Rattle.sp_tree_events.specs.CopiesStanding.{CopyNets, AreNumbered}
use Rattle.sp_owner_runs.specs.Standing.{StandCopies}

module _ (core : PlainCore) (plan : PlainPlan) (delays : Delays) (k n : ℕ) (start : List PlainOp) (state : ℕ) (ops : List PlainOp) (node : PlainNode) (after : List PlainOp) where
  abbrev whole : PlainNode
  whole = fsm start state ops node after

  -- when a list of a turn begins, and that it is over before the turns are
  module _ (r : Placed) (scope : Scope) where
    abbrev turns_last : (turn : ℕ) → Turns → List Entry → ℕ
    turns_last t ts last = (turn_runs core plan delays start state ops node after k n t r.standing r.copies ts last).took

    abbrev next_cycle : (turn cycle : ℕ) → History → ℕ
    next_cycle t p h = p + list_took core plan delays ops + body_took core plan delays k n start ops node after r t h

    abbrev turn_cycle : (turn cycle : ℕ) → History → ℕ
    turn_cycle t p h = next_cycle t p h + list_took core plan delays after

    tests_between : (t p : ℕ) (ts : Turns) (last : List Entry) (l : ListRun) → Contains (tests_in core plan delays k n start ops node after r scope t p ts last) l → (l.copies ≡ r.copies) × (p ≤ l.cycle) × (l.cycle + list_took core plan delays ops ≤ p + turns_last t ts last)
    unfolding turn_runs
    tests_between t p no_turn last l c = by (first_or_later (list_in_turn core plan delays k n start ops node after r scope t p last) l [] c)
      where
        by : (list_in_turn core plan delays k n start ops node after r scope t p last ≡ l) ⊎ Contains {X = ListRun} [] l → (l.copies ≡ r.copies) × (p ≤ l.cycle) × (l.cycle + list_took core plan delays ops ≤ p + turns_last t no_turn last)
        by (inr x) = absurd (none_there l x)
        by (inl e) = subst (λ (y : ListRun). (y.copies ≡ r.copies) × (p ≤ y.cycle) × (y.cycle + list_took core plan delays ops ≤ p + turns_last t no_turn last)) e (refl, omega arith, omega arith)
    tests_between t p (more_turn es h ns rest) last l c =
        by (first_or_later (list_in_turn core plan delays k n start ops node after r scope t p es) l (tests_in core plan delays k n start ops node after r scope (suc t) (turn_cycle t p h) rest last) c) (tests_between (suc t) (turn_cycle t p h) rest last l)
      where
        by : (list_in_turn core plan delays k n start ops node after r scope t p es ≡ l) ⊎ Contains (tests_in core plan delays k n start ops node after r scope (suc t) (turn_cycle t p h) rest last) l
            → (Contains (tests_in core plan delays k n start ops node after r scope (suc t) (turn_cycle t p h) rest last) l → (l.copies ≡ r.copies) × ((turn_cycle t p h) ≤ l.cycle) × (l.cycle + list_took core plan delays ops ≤ (turn_cycle t p h) + turns_last (suc t) rest last))
            → (l.copies ≡ r.copies) × (p ≤ l.cycle) × (l.cycle + list_took core plan delays ops ≤ p + turns_last t (more_turn es h ns rest) last)
        by (inl e) others = subst (λ (y : ListRun). (y.copies ≡ r.copies) × (p ≤ y.cycle) × (y.cycle + list_took core plan delays ops ≤ p + turns_last t (more_turn es h ns rest) last)) e (refl, omega arith, omega arith)
        by (inr x) others = let o = others x in let a = o.1 in let b = o.2 in (o.0, omega (arith, a), omega (arith, b))

    nexts_between : (t p : ℕ) (ts : Turns) (last : List Entry) (l : ListRun) → Contains (nexts_in core plan delays k n start ops node after r scope t p ts) l → (l.copies ≡ r.copies) × (p ≤ l.cycle) × (l.cycle + list_took core plan delays after ≤ p + turns_last t ts last)
    unfolding turn_runs
    nexts_between t p no_turn last l c = absurd (none_there l c)
    nexts_between t p (more_turn es h ns rest) last l c =
        by (first_or_later (list_in_turn core plan delays k n start ops node after r scope t (next_cycle t p h) ns) l (nexts_in core plan delays k n start ops node after r scope (suc t) (turn_cycle t p h) rest) c) (nexts_between (suc t) (turn_cycle t p h) rest last l)
      where
        by : (list_in_turn core plan delays k n start ops node after r scope t (next_cycle t p h) ns ≡ l) ⊎ Contains (nexts_in core plan delays k n start ops node after r scope (suc t) (turn_cycle t p h) rest) l
            → (Contains (nexts_in core plan delays k n start ops node after r scope (suc t) (turn_cycle t p h) rest) l → (l.copies ≡ r.copies) × ((turn_cycle t p h) ≤ l.cycle) × (l.cycle + list_took core plan delays after ≤ (turn_cycle t p h) + turns_last (suc t) rest last))
            → (l.copies ≡ r.copies) × (p ≤ l.cycle) × (l.cycle + list_took core plan delays after ≤ p + turns_last t (more_turn es h ns rest) last)
        by (inl e) others = subst (λ (y : ListRun). (y.copies ≡ r.copies) × (p ≤ y.cycle) × (y.cycle + list_took core plan delays after ≤ p + turns_last t (more_turn es h ns rest) last)) e (refl, omega arith, omega arith)
        by (inr x) others = let o = others x in let a = o.1 in let b = o.2 in (o.0, omega (arith, a), omega (arith, b))

  -- each list of a run lies within it, with the run's copies at hand
  abbrev IsInside : List PlainOp → Scoped → Placed → ListRun → Type 0
  IsInside list q r l = (l.copies ≡ q.run.copies) × (q.run.cycle ≤ l.cycle) × (l.cycle + list_took core plan delays list ≤ over_at core plan delays whole k n r)

  start_inside : (q : Scoped) (h : History) → AllDone in_lanes whole q.scope h → IsInside start q (record q.run { history = h }) (start_list core plan delays k n start ops node after q)
  unfolding timed
  start_inside q (fsm_ran first ts last) done = (refl, omega arith, omega arith)
  start_inside q h done = elim done [ ]

  tests_inside : (q : Scoped) (h : History) → AllDone in_lanes whole q.scope h → (l : ListRun) → Contains (test_lists_in core plan delays k n start ops node after q h) l → IsInside ops q (record q.run { history = h }) l
  unfolding timed
  tests_inside q (fsm_ran first ts last) done l c =
      let x = tests_between q.run q.scope 0 (suc q.run.cycle + list_took core plan delays start) ts last l c in
      let a = x.1 in
      let b = x.2 in
      (x.0, omega (arith, a), omega (arith, b))
  tests_inside q h done l c = elim done [ ]

  nexts_inside : (q : Scoped) (h : History) → AllDone in_lanes whole q.scope h → (l : ListRun) → Contains (next_lists_in core plan delays k n start ops node after q h) l → IsInside after q (record q.run { history = h }) l
  unfolding timed
  nexts_inside q (fsm_ran first ts last) done l c =
      let x = nexts_between q.run q.scope 0 (suc q.run.cycle + list_took core plan delays start) ts last l c in
      let a = x.1 in
      let b = x.2 in
      (x.0, omega (arith, a), omega (arith, b))
  nexts_inside q h done l c = elim done [ ]

  pub record InRun (list : List PlainOp) (qs : List Scoped) (l : ListRun) : Type 0 where
    pub run : Scoped
    pub there : Contains qs run
    pub same : l.copies ≡ run.run.copies
    pub low : run.run.cycle ≤ l.cycle
    pub high : l.cycle + list_took core plan delays list ≤ over_at core plan delays whole k n run.run

  done_of : (qs : List Scoped) → AllAreDone whole qs → (q : Scoped) → Contains qs q → AllDone in_lanes whole q.scope q.run.history
  done_of [] h q c = absurd (none_there q c)
  done_of (x ∷ qs) h q (zero, l, e) = subst (λ (y : Scoped). AllDone in_lanes whole y.scope y.run.history) e h.0
  done_of (x ∷ qs) h q (suc i, l, e) = done_of qs h.1 q (i, omega (arith, l), e)

  module _ (qs : List Scoped) (done : AllAreDone whole qs) where
    pub starts_in : (l : ListRun) → Contains (map (start_list core plan delays k n start ops node after) qs) l → InRun start qs l
    starts_in l c =
        let x = mapped_from (start_list core plan delays k n start ops node after) qs l c in
        let y = start_inside x.0 x.0.run.history (done_of qs done x.0 x.1) in
        subst (InRun start qs) x.2 (record { run = x.0; there = x.1; same = y.0; low = y.1; high = y.2 })

    pub tests_there : (l : ListRun) → Contains (test_lists core plan delays k n start ops node after qs) l → InRun ops qs l
    tests_there l c =
        let x = joined_from (λ (q : Scoped). test_lists_in core plan delays k n start ops node after q q.run.history) qs l c in
        let y = tests_inside x.0 x.0.run.history (done_of qs done x.0 x.1) l x.2 in
        record { run = x.0; there = x.1; same = y.0; low = y.1; high = y.2 }

    pub nexts_there : (l : ListRun) → Contains (next_lists core plan delays k n start ops node after qs) l → InRun after qs l
    nexts_there l c =
        let x = joined_from (λ (q : Scoped). next_lists_in core plan delays k n start ops node after q q.run.history) qs l c in
        let y = nexts_inside x.0 x.0.run.history (done_of qs done x.0 x.1) l x.2 in
        record { run = x.0; there = x.1; same = y.0; low = y.1; high = y.2 }

    -- so around each list the numbers stand that stand around the FSM
    module _ (s : Signals) (around : CopyNets) (last : ℕ) (stand : StandCopies core plan delays s whole k n qs around last) where
      pub list_stands : (list : List PlainOp) (l : ListRun) → InRun list qs l → (u : ℕ) → l.cycle ≤ u → u < l.cycle + list_took core plan delays list → u ≤ last → AreNumbered s u around l.copies
      list_stands list l i u low high late =
          let a = i.low in
          let b = i.high in
          subst (AreNumbered s u around) (sym i.same) (stand i.run u i.there (omega (arith, a, low)) (omega (arith, b, high)) late)
