-- The lists of an FSM in its runs: what they did, that they are the parts of its circuit, and what stands around them.
use Rattle.std.proofs.Common.{◌≡◌, ℕ, suc, ◌+◌, ◌<◌, ◌≤◌, ◌&&◌, ◌⊎◌, inl, inr, true, List, [], ◌∷◌, ◌++◌, map, refl, sym, ap, subst, ◌∙◌, arith}
use Rattle.std.specs.List.{Contains}
use Rattle.std.proofs.lemmas.Bool.{and_parts}
use Rattle.std.proofs.lemmas.List.{map-append}
use Rattle.sp_words.specs.declared.types.Ty.TheVariants.{Bit}
use Rattle.sp_core.specs.Around.{Around}
use Rattle.sp_core.specs.Declarations.{mem}
use Rattle.sp_core.specs.History.{Entry, History, Turns, fsm_ran, no_turn, more_turn}
use Rattle.sp_core.specs.Invariant.{IsRight}
use Rattle.sp_core.specs.NodeRules.{with_state, is_reg}
use Rattle.sp_core.specs.OperationRules.{is_word_list}
use Rattle.sp_core.specs.PlainCore.{PlainOp, PlainNode, fsm, PlainCore}
use Rattle.sp_core.specs.Scope.{Scope, in_lanes}
use Rattle.sp_fitting.specs.Fitting.{HistoryFits, EntriesFit, TurnsFit}
use Rattle.sp_fitting.proofs.Rules.{here_right}
use Rattle.sp_part_runs.specs.ActsEntries.{AreEntries}
use Rattle.sp_part_runs.specs.ControlMachines.{MachineRan, first_run, tests_from, nexts_from, tests_of, nexts_of, tests, nexts}
use Rattle.sp_part_runs.specs.ControlParts.{Tested, runs_of}
use Rattle.sp_plan.specs.PlainPlan.{PlainPlan}
use Rattle.sp_machine.specs.Timeline.{timed, turn_runs}
use Rattle.sp_machine.specs.Transfers.{Delays}
use Rattle.sp_node_runs.specs.Runs.{Placed, over_at, list_took}
use Rattle.sp_node_runs.specs.ControlRuns.{turns_of, machine_of}
use Rattle.sp_node_runs.specs.BodiesLists.{DidList, ListRun, list_ran}
use Rattle.sp_node_runs.proofs.BodiesListed.{none_there, first_or_later, mapped_from, joined_from}
use Rattle.sp_tree_runs.specs.BodiesDone.{AllDone, TurnsDone}
use Rattle.sp_tree_runs.specs.BodiesScoped.{Scoped, placed, AllAreDone}
use Rattle.sp_tree_runs.specs.BodiesTurns.{started_in, start_list, body_took, list_in_turn, tests_in, nexts_in, test_lists_in, next_lists_in, test_lists, next_lists}
use Rattle.sp_tree_circuits.proofs.Listing.{one_did}

module _ (core : PlainCore) (plan : PlainPlan) (delays : Delays) (k n : ℕ) (start : List PlainOp) (state : ℕ) (ops : List PlainOp) (node : PlainNode) (after : List PlainOp) where
  abbrev whole : PlainNode
  whole = fsm start state ops node after

  abbrev machine : Placed → MachineRan
  machine r = machine_of core plan delays k n start ops node after r

  -- the rules of its lists
  rules : (around : Around) (earlier : List ℕ) → IsRight core around earlier whole → (is_word_list core around start (mem core state).ty ≡ true) × (is_word_list core (with_state core around state) ops Bit ≡ true) × (is_word_list core (with_state core around state) after (mem core state).ty ≡ true)
  rules around earlier right =
      let a = and_parts (is_reg (mem core state).kind && is_word_list core around start (mem core state).ty) (is_word_list core (with_state core around state) ops Bit && is_word_list core (with_state core around state) after (mem core state).ty) (here_right core around earlier whole right.0).0 in
      let b = and_parts (is_reg (mem core state).kind) (is_word_list core around start (mem core state).ty) a.0 in
      let c = and_parts (is_word_list core (with_state core around state) ops Bit) (is_word_list core (with_state core around state) after (mem core state).ty) a.1 in
      (b.1, c.0, c.1)

  module _ (around : Around) (earlier : List ℕ) (right : IsRight core around earlier whole) where
    pub start_did : (scope : Scope) (h : History) → AllDone in_lanes whole scope h → HistoryFits core whole h → DidList scope start (started_in core plan delays k n start ops node after h)
    start_did scope (fsm_ran first ts last) done fits = one_did core around start (mem core state).ty scope first (rules around earlier right).0 done.0 fits.0
    start_did scope h done fits = elim done [ ]

    tests_did : (r : Placed) (scope : Scope) (t p : ℕ) (ts : Turns) (last : List Entry) → TurnsDone in_lanes ops node after scope ts → TurnsFit core ops node after ts → AreEntries scope ops last → EntriesFit ops last
        → (l : ListRun) → Contains (tests_in core plan delays k n start ops node after r scope t p ts last) l → DidList l.scope ops l.entries
    tests_did r scope t p no_turn last done fits d f l c = by (first_or_later (list_in_turn core plan delays k n start ops node after r scope t p last) l [] c)
      where
        by : (list_in_turn core plan delays k n start ops node after r scope t p last ≡ l) ⊎ Contains {X = ListRun} [] l → DidList l.scope ops l.entries
        by (inr x) = absurd (none_there l x)
        by (inl e) = subst (λ (l : ListRun). DidList l.scope ops l.entries) e (one_did core (with_state core around state) ops Bit scope last (rules around earlier right).1 d f)
    tests_did r scope t p (more_turn es h ns rest) last done fits d f l c =
        by (first_or_later (list_in_turn core plan delays k n start ops node after r scope t p es) l (tests_in core plan delays k n start ops node after r scope (suc t) (p + list_took core plan delays ops + body_took core plan delays k n start ops node after r t h + list_took core plan delays after) rest last) c)
        (tests_did r scope (suc t) (p + list_took core plan delays ops + body_took core plan delays k n start ops node after r t h + list_took core plan delays after) rest last done.1 fits.1 d f l)
      where
        by : (list_in_turn core plan delays k n start ops node after r scope t p es ≡ l) ⊎ Contains (tests_in core plan delays k n start ops node after r scope (suc t) (p + list_took core plan delays ops + body_took core plan delays k n start ops node after r t h + list_took core plan delays after) rest last) l
            → (Contains (tests_in core plan delays k n start ops node after r scope (suc t) (p + list_took core plan delays ops + body_took core plan delays k n start ops node after r t h + list_took core plan delays after) rest last) l → DidList l.scope ops l.entries) → DidList l.scope ops l.entries
        by (inr x) others = others x
        by (inl e) others = subst (λ (l : ListRun). DidList l.scope ops l.entries) e (one_did core (with_state core around state) ops Bit scope es (rules around earlier right).1 done.0.0 fits.0.0)

    nexts_did : (r : Placed) (scope : Scope) (t p : ℕ) (ts : Turns) → TurnsDone in_lanes ops node after scope ts → TurnsFit core ops node after ts → (l : ListRun) → Contains (nexts_in core plan delays k n start ops node after r scope t p ts) l → DidList l.scope after l.entries
    nexts_did r scope t p no_turn done fits l c = absurd (none_there l c)
    nexts_did r scope t p (more_turn es h ns rest) done fits l c =
        by (first_or_later (list_in_turn core plan delays k n start ops node after r scope t (p + list_took core plan delays ops + body_took core plan delays k n start ops node after r t h) ns) l (nexts_in core plan delays k n start ops node after r scope (suc t) (p + list_took core plan delays ops + body_took core plan delays k n start ops node after r t h + list_took core plan delays after) rest) c)
        (nexts_did r scope (suc t) (p + list_took core plan delays ops + body_took core plan delays k n start ops node after r t h + list_took core plan delays after) rest done.1 fits.1 l)
      where
        by : (list_in_turn core plan delays k n start ops node after r scope t (p + list_took core plan delays ops + body_took core plan delays k n start ops node after r t h) ns ≡ l) ⊎ Contains (nexts_in core plan delays k n start ops node after r scope (suc t) (p + list_took core plan delays ops + body_took core plan delays k n start ops node after r t h + list_took core plan delays after) rest) l
            → (Contains (nexts_in core plan delays k n start ops node after r scope (suc t) (p + list_took core plan delays ops + body_took core plan delays k n start ops node after r t h + list_took core plan delays after) rest) l → DidList l.scope after l.entries) → DidList l.scope after l.entries
        by (inr x) others = others x
        by (inl e) others = subst (λ (l : ListRun). DidList l.scope after l.entries) e (one_did core (with_state core around state) after (mem core state).ty scope ns (rules around earlier right).2 done.0.3 fits.0.1.1)

    pub tests_in_run : (q : Scoped) (h : History) → AllDone in_lanes whole q.scope h → HistoryFits core whole h → (l : ListRun) → Contains (test_lists_in core plan delays k n start ops node after q h) l → DidList l.scope ops l.entries
    tests_in_run q (fsm_ran first ts last) done fits l c = tests_did q.run q.scope 0 _ ts last done.1 fits.1.0 done.2 fits.1.1 l c
    tests_in_run q h done fits l c = elim done [ ]

    pub nexts_in_run : (q : Scoped) (h : History) → AllDone in_lanes whole q.scope h → HistoryFits core whole h → (l : ListRun) → Contains (next_lists_in core plan delays k n start ops node after q h) l → DidList l.scope after l.entries
    nexts_in_run q (fsm_ran first ts last) done fits l c = nexts_did q.run q.scope 0 _ ts done.1 fits.1.0 l c
    nexts_in_run q h done fits l c = elim done [ ]

  -- the lists are the parts of the machine, in its cycles
  pub starts_same : (qs : List Scoped) → map (list_ran core start) (map (start_list core plan delays k n start ops node after) qs) ≡ map (λ r. first_run (machine r)) (placed qs)
  starts_same [] = refl
  starts_same (q ∷ qs) = ap (λ rest. list_ran core start (start_list core plan delays k n start ops node after q) ∷ rest) (starts_same qs)

  tests_same : (r : Placed) (scope : Scope) (t p : ℕ) (ts : Turns) (last : List Entry) → map (list_ran core ops) (tests_in core plan delays k n start ops node after r scope t p ts last) ≡ runs_of (tests_from p (turns_of core plan delays k n start ops node after r t ts) (list_took core plan delays ops))
  tests_same r scope t p no_turn last = refl
  tests_same r scope t p (more_turn es h ns rest) last = ap (λ xs. record { cycle = p; took = list_took core plan delays ops } ∷ xs) (tests_same r scope (suc t) (p + list_took core plan delays ops + body_took core plan delays k n start ops node after r t h + list_took core plan delays after) rest last)

  nexts_same : (r : Placed) (scope : Scope) (t p : ℕ) (ts : Turns) → map (list_ran core after) (nexts_in core plan delays k n start ops node after r scope t p ts) ≡ nexts_from p (turns_of core plan delays k n start ops node after r t ts)
  nexts_same r scope t p no_turn = refl
  nexts_same r scope t p (more_turn es h ns rest) =
      ap (λ xs. record { cycle = p + list_took core plan delays ops + body_took core plan delays k n start ops node after r t h; took = list_took core plan delays after } ∷ xs) (nexts_same r scope (suc t) (p + list_took core plan delays ops + body_took core plan delays k n start ops node after r t h + list_took core plan delays after) rest)

  tests_of_run : (q : Scoped) (h : History) → AllDone in_lanes whole q.scope h → map (list_ran core ops) (test_lists_in core plan delays k n start ops node after q h) ≡ runs_of (tests_of (machine (record q.run { history = h })))
  tests_of_run q (fsm_ran first ts last) done = tests_same q.run q.scope 0 (suc q.run.cycle + list_took core plan delays start) ts last
  tests_of_run q h done = elim done [ ]

  nexts_of_run : (q : Scoped) (h : History) → AllDone in_lanes whole q.scope h → map (list_ran core after) (next_lists_in core plan delays k n start ops node after q h) ≡ nexts_of (machine (record q.run { history = h }))
  nexts_of_run q (fsm_ran first ts last) done = nexts_same q.run q.scope 0 (suc q.run.cycle + list_took core plan delays start) ts
  nexts_of_run q h done = elim done [ ]

  pub all_tests : (qs : List Scoped) → AllAreDone whole qs → map (list_ran core ops) (test_lists core plan delays k n start ops node after qs) ≡ runs_of (tests (map machine (placed qs)))
  all_tests [] done = refl
  all_tests (q ∷ qs) done =
      map-append (list_ran core ops) (test_lists_in core plan delays k n start ops node after q q.run.history) (test_lists core plan delays k n start ops node after qs)
      ∙ ap (λ xs. xs ++ map (list_ran core ops) (test_lists core plan delays k n start ops node after qs)) (tests_of_run q q.run.history done.0) ∙ ap (λ xs. runs_of (tests_of (machine q.run)) ++ xs) (all_tests qs done.1)
      ∙ sym (map-append (λ (e : Tested). e.run) (tests_of (machine q.run)) (tests (map machine (placed qs))))

  pub all_nexts : (qs : List Scoped) → AllAreDone whole qs → map (list_ran core after) (next_lists core plan delays k n start ops node after qs) ≡ nexts (map machine (placed qs))
  all_nexts [] done = refl
  all_nexts (q ∷ qs) done =
      map-append (list_ran core after) (next_lists_in core plan delays k n start ops node after q q.run.history) (next_lists core plan delays k n start ops node after qs)
      ∙ ap (λ xs. xs ++ map (list_ran core after) (next_lists core plan delays k n start ops node after qs)) (nexts_of_run q q.run.history done.0) ∙ ap (λ xs. nexts_of (machine q.run) ++ xs) (all_nexts qs done.1)

  -- when a list of a turn begins, and that it is over before the turns are
  module _ (r : Placed) (scope : Scope) where
    abbrev turns_last : (turn : ℕ) → Turns → List Entry → ℕ
    turns_last t ts last = (turn_runs core plan delays start state ops node after k n t r.standing r.copies ts last).took

    abbrev next_cycle : (turn cycle : ℕ) → History → ℕ
    next_cycle t p h = p + list_took core plan delays ops + body_took core plan delays k n start ops node after r t h

    abbrev turn_cycle : (turn cycle : ℕ) → History → ℕ
    turn_cycle t p h = next_cycle t p h + list_took core plan delays after

    tests_between : (t p : ℕ) (ts : Turns) (last : List Entry) (l : ListRun) → Contains (tests_in core plan delays k n start ops node after r scope t p ts last) l → (l.scope ≡ scope) × (p ≤ l.cycle) × (l.cycle + list_took core plan delays ops ≤ p + turns_last t ts last)
    unfolding turn_runs
    tests_between t p no_turn last l c = by (first_or_later (list_in_turn core plan delays k n start ops node after r scope t p last) l [] c)
      where
        by : (list_in_turn core plan delays k n start ops node after r scope t p last ≡ l) ⊎ Contains {X = ListRun} [] l → (l.scope ≡ scope) × (p ≤ l.cycle) × (l.cycle + list_took core plan delays ops ≤ p + turns_last t no_turn last)
        by (inr x) = absurd (none_there l x)
        by (inl e) = subst (λ (y : ListRun). (y.scope ≡ scope) × (p ≤ y.cycle) × (y.cycle + list_took core plan delays ops ≤ p + turns_last t no_turn last)) e (refl, omega arith, omega arith)
    tests_between t p (more_turn es h ns rest) last l c =
        by (first_or_later (list_in_turn core plan delays k n start ops node after r scope t p es) l (tests_in core plan delays k n start ops node after r scope (suc t) (turn_cycle t p h) rest last) c) (tests_between (suc t) (turn_cycle t p h) rest last l)
      where
        by : (list_in_turn core plan delays k n start ops node after r scope t p es ≡ l) ⊎ Contains (tests_in core plan delays k n start ops node after r scope (suc t) (turn_cycle t p h) rest last) l
            → (Contains (tests_in core plan delays k n start ops node after r scope (suc t) (turn_cycle t p h) rest last) l → (l.scope ≡ scope) × ((turn_cycle t p h) ≤ l.cycle) × (l.cycle + list_took core plan delays ops ≤ (turn_cycle t p h) + turns_last (suc t) rest last))
            → (l.scope ≡ scope) × (p ≤ l.cycle) × (l.cycle + list_took core plan delays ops ≤ p + turns_last t (more_turn es h ns rest) last)
        by (inl e) others = subst (λ (y : ListRun). (y.scope ≡ scope) × (p ≤ y.cycle) × (y.cycle + list_took core plan delays ops ≤ p + turns_last t (more_turn es h ns rest) last)) e (refl, omega arith, omega arith)
        by (inr x) others = let o = others x in let a = o.1 in let b = o.2 in (o.0, omega (arith, a), omega (arith, b))

    nexts_between : (t p : ℕ) (ts : Turns) (last : List Entry) (l : ListRun) → Contains (nexts_in core plan delays k n start ops node after r scope t p ts) l → (l.scope ≡ scope) × (p ≤ l.cycle) × (l.cycle + list_took core plan delays after ≤ p + turns_last t ts last)
    unfolding turn_runs
    nexts_between t p no_turn last l c = absurd (none_there l c)
    nexts_between t p (more_turn es h ns rest) last l c =
        by (first_or_later (list_in_turn core plan delays k n start ops node after r scope t (next_cycle t p h) ns) l (nexts_in core plan delays k n start ops node after r scope (suc t) (turn_cycle t p h) rest) c) (nexts_between (suc t) (turn_cycle t p h) rest last l)
      where
        by : (list_in_turn core plan delays k n start ops node after r scope t (next_cycle t p h) ns ≡ l) ⊎ Contains (nexts_in core plan delays k n start ops node after r scope (suc t) (turn_cycle t p h) rest) l
            → (Contains (nexts_in core plan delays k n start ops node after r scope (suc t) (turn_cycle t p h) rest) l → (l.scope ≡ scope) × ((turn_cycle t p h) ≤ l.cycle) × (l.cycle + list_took core plan delays after ≤ (turn_cycle t p h) + turns_last (suc t) rest last))
            → (l.scope ≡ scope) × (p ≤ l.cycle) × (l.cycle + list_took core plan delays after ≤ p + turns_last t (more_turn es h ns rest) last)
        by (inl e) others = subst (λ (y : ListRun). (y.scope ≡ scope) × (p ≤ y.cycle) × (y.cycle + list_took core plan delays after ≤ p + turns_last t (more_turn es h ns rest) last)) e (refl, omega arith, omega arith)
        by (inr x) others = let o = others x in let a = o.1 in let b = o.2 in (o.0, omega (arith, a), omega (arith, b))

  -- each list of a run lies within it
  abbrev IsInside : Scoped → Placed → ListRun → Type 0
  IsInside q r l = (l.scope ≡ q.scope) × (q.run.cycle ≤ suc l.cycle) × (suc l.cycle < over_at core plan delays whole k n r)

  start_inside : (q : Scoped) (h : History) → AllDone in_lanes whole q.scope h → IsInside q (record q.run { history = h }) (start_list core plan delays k n start ops node after q)
  unfolding timed
  start_inside q (fsm_ran first ts last) done = (refl, omega arith, omega arith)
  start_inside q h done = elim done [ ]

  tests_inside : (q : Scoped) (h : History) → AllDone in_lanes whole q.scope h → (l : ListRun) → Contains (test_lists_in core plan delays k n start ops node after q h) l → IsInside q (record q.run { history = h }) l
  unfolding timed
  tests_inside q (fsm_ran first ts last) done l c =
      let x = tests_between q.run q.scope 0 (suc q.run.cycle + list_took core plan delays start) ts last l c in
      let a = x.1 in
      let b = x.2 in
      (x.0, omega (arith, a), omega (arith, b))
  tests_inside q h done l c = elim done [ ]

  nexts_inside : (q : Scoped) (h : History) → AllDone in_lanes whole q.scope h → (l : ListRun) → Contains (next_lists_in core plan delays k n start ops node after q h) l → IsInside q (record q.run { history = h }) l
  unfolding timed
  nexts_inside q (fsm_ran first ts last) done l c =
      let x = nexts_between q.run q.scope 0 (suc q.run.cycle + list_took core plan delays start) ts last l c in
      let a = x.1 in
      let b = x.2 in
      (x.0, omega (arith, a), omega (arith, b))
  nexts_inside q h done l c = elim done [ ]

  pub record InRun (qs : List Scoped) (l : ListRun) : Type 0 where
    pub run : Scoped
    pub there : Contains qs run
    pub same : l.scope ≡ run.scope
    pub low : run.run.cycle ≤ suc l.cycle
    pub high : suc l.cycle < over_at core plan delays whole k n run.run

  module _ (qs : List Scoped) (done : (q : Scoped) → Contains qs q → AllDone in_lanes whole q.scope q.run.history) where
    pub starts_in : (l : ListRun) → Contains (map (start_list core plan delays k n start ops node after) qs) l → InRun qs l
    starts_in l c =
        let x = mapped_from (start_list core plan delays k n start ops node after) qs l c in
        let y = start_inside x.0 x.0.run.history (done x.0 x.1) in
        subst (InRun qs) x.2 (record { run = x.0; there = x.1; same = y.0; low = y.1; high = y.2 })

    pub tests_there : (l : ListRun) → Contains (test_lists core plan delays k n start ops node after qs) l → InRun qs l
    tests_there l c =
        let x = joined_from (λ (q : Scoped). test_lists_in core plan delays k n start ops node after q q.run.history) qs l c in
        let y = tests_inside x.0 x.0.run.history (done x.0 x.1) l x.2 in
        record { run = x.0; there = x.1; same = y.0; low = y.1; high = y.2 }

    pub nexts_there : (l : ListRun) → Contains (next_lists core plan delays k n start ops node after qs) l → InRun qs l
    nexts_there l c =
        let x = joined_from (λ (q : Scoped). next_lists_in core plan delays k n start ops node after q q.run.history) qs l c in
        let y = nexts_inside x.0 x.0.run.history (done x.0 x.1) l x.2 in
        record { run = x.0; there = x.1; same = y.0; low = y.1; high = y.2 }
