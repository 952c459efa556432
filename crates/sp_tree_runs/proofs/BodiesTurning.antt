-- The lists of an FSM do their runs, turn after turn.
use Rattle.std.proofs.Common.{◌≡◌, ℕ, suc, ◌+◌, ◌≤◌, ◌==◌, ◌&&◌, ◌⊎◌, inl, inr, true, false, List, [], ◌∷◌, ◌++◌, map, length, refl, sym, ap, subst, ◌∙◌, arith}
use Rattle.std.specs.List.{Contains}
use Rattle.std.proofs.lemmas.Bool.{and_parts}
use Rattle.std.proofs.lemmas.List.{map-append}
use Rattle.sp_netlist.specs.declared.parts.Child.{Child}
use Rattle.sp_netlist.specs.Signals.{Signals}
use Rattle.sp_gates.specs.Tested.{is_on}
use Rattle.sp_words.specs.declared.types.Ty.{Ty}
use Rattle.sp_words.specs.declared.types.Ty.TheVariants.{Bit}
use Rattle.sp_core.specs.Around.{Around, Near}
use Rattle.sp_core.specs.Declarations.{mem}
use Rattle.sp_core.specs.History.{Entry, last_word, History, Turns, fsm_ran, no_turn, more_turn}
use Rattle.sp_core.specs.Invariant.{IsRight}
use Rattle.sp_core.specs.Latency.{latency_of_all}
use Rattle.sp_core.specs.NodeRules.{with_state, is_reg}
use Rattle.sp_core.specs.Numbering.{number_count}
use Rattle.sp_core.specs.OperationRules.{is_word_list}
use Rattle.sp_core.specs.PlainCore.{PlainOp, PlainNode, fsm, PlainCore}
use Rattle.sp_core.specs.Scope.{Scope, in_lanes}
use Rattle.sp_fitting.specs.Fitting.{HistoryFits, EntriesFit, TurnsFit}
use Rattle.sp_fitting.proofs.Lists.{masks_are_bits}
use Rattle.sp_fitting.proofs.Rules.{here_right, word_list_right}
use Rattle.sp_part_runs.specs.ActsEntries.{AreEntries}
use Rattle.sp_part_runs.proofs.ActsIndices.{indices_are_words}
use Rattle.sp_part_runs.specs.BodiesRuns.{IsOnAt}
use Rattle.sp_part_runs.specs.ControlMachines.{MachineRan, first_run, tests_from, nexts_from, tests_of, nexts_of, tests, nexts}
use Rattle.sp_part_runs.specs.ControlParts.{Ran, Tested, Begins, Ends, runs_of}
use Rattle.sp_plan.specs.PlainPlan.{PlainPlan}
use Rattle.sp_machine.specs.Transfers.{Delays}
use Rattle.sp_node_runs.specs.Runs.{Placed, list_took}
use Rattle.sp_node_runs.specs.ControlLaws.{Does}
use Rattle.sp_node_runs.specs.ControlRuns.{turns_of, machine_of}
use Rattle.sp_node_runs.specs.BodiesGiven.{Nets}
use Rattle.sp_node_runs.specs.BodiesLists.{DidList, ListRun, list_ran, ListGoes, ListsWork}
use Rattle.sp_node_runs.proofs.BodiesBounds.{last_is, pipe_at}
use Rattle.sp_node_runs.proofs.BodiesListed.{here, there, none_there, first_or_later, mapped_from, joined_to, joined_from}
use Rattle.sp_tree_runs.specs.BodiesDone.{AllDone, TurnsDone}
use Rattle.sp_tree_runs.specs.BodiesScoped.{Scoped, placed, AllAreDone}
use Rattle.sp_tree_runs.specs.BodiesScopes.{TestPart}
use Rattle.sp_tree_runs.specs.BodiesTurns.{started_in, start_list, body_took, list_in_turn, tests_in, nexts_in, test_lists_in, next_lists_in, test_lists, next_lists, TurnsTell}
use Rattle.sp_tree_runs.proofs.BodiesFinding.{done_of, fit_of}

module _ (core : PlainCore) (plan : PlainPlan) (delays : Delays) (work : ListsWork core) where
  -- the circuit of a list over any runs
  module _ (s : Signals) (last n : ℕ) (ops : List PlainOp) (near : List Near) (env : Nets) (runs : List ListRun) (c : Child) (word : ℕ) (p : TestPart core plan delays s last n ops near env runs c word) (did : (r : ListRun) → Contains runs r → DidList r.scope ops r.entries) where
    pub part_goes : (t : ℕ) → t ≤ last → IsOnAt (is_on s c.start) (Begins (map (list_ran core ops) runs)) t → ListGoes core s p.draft p.ps p.issue c.done t n ops runs
    part_goes t le started = work s p.draft c.start p.ps p.issue c.done last n ops near env runs p.runs_on p.issues p.timed p.given did p.stand p.answered t le started

    pub part_does : Does s c (map (list_ran core ops) runs) last
    part_does t le started = (part_goes t le started).ends

    -- where it is over the net has the list's word
    pub part_word : (t : ℕ) → t ≤ last → IsOnAt (is_on s c.start) (Begins (map (list_ran core ops) runs)) t → (r : ListRun) (u : ℕ) → Contains runs r → suc u ≡ r.cycle + (2 + latency_of_all core ops) → u ≤ t → s.net u word ≡ last_word r.entries
    part_word t le started r u there ends late =
        let now : suc r.cycle + latency_of_all core ops ≡ u = omega (arith, ends) in
        let many = p.timed.ops_of.each in
        let final = p.is_last in
        let q = pipe_at p.ps p.place (omega (arith, many, final)) in
        let each = (did r there).entries.each in
        ap (λ v. s.net v word) (sym now) ∙ (part_goes t le started).words r p.place q.0 word (latency_of_all core ops) there q.1 (p.gives q.0 q.1) (p.in_time q.0 q.1) p.word (omega (arith, now, late)) ∙ last_is r.entries p.place (omega (arith, final, each))

  -- an FSM
  module _ (k n : ℕ) (start : List PlainOp) (state : ℕ) (ops : List PlainOp) (node : PlainNode) (after : List PlainOp) where
    abbrev whole : PlainNode
    whole = fsm start state ops node after

    abbrev machine : Placed → MachineRan
    machine r = machine_of core plan delays k n start ops node after r

    -- the rules of its lists
    rules : (around : Around) (earlier : List ℕ) → IsRight core around earlier whole → (is_word_list core around start (mem core state).ty ≡ true) × (is_word_list core (with_state core around state) ops Bit ≡ true) × (is_word_list core (with_state core around state) after (mem core state).ty ≡ true)
    rules around earlier right =
        let a = and_parts (is_reg (mem core state).kind && is_word_list core around start (mem core state).ty) (is_word_list core (with_state core around state) ops Bit && is_word_list core (with_state core around state) after (mem core state).ty) (here_right core around earlier whole right.0).0 in
        let b = and_parts (is_reg (mem core state).kind) (is_word_list core around start (mem core state).ty) a.0 in
        let c = and_parts (is_word_list core (with_state core around state) ops Bit) (is_word_list core (with_state core around state) after (mem core state).ty) a.1 in
        (b.1, c.0, c.1)

    one_did : (around : Around) (list : List PlainOp) (ty : Ty) (scope : Scope) (es : List Entry) → is_word_list core around list ty ≡ true → AreEntries scope list es → EntriesFit list es → DidList scope list es
    one_did around list ty scope es right done fits = record { entries = done; bits = masks_are_bits core around list es (word_list_right core around list ty right).0 fits; indices = indices_are_words core around list es (word_list_right core around list ty right).0 fits }

    module _ (around : Around) (earlier : List ℕ) (right : IsRight core around earlier whole) where
      start_did : (scope : Scope) (h : History) → AllDone in_lanes whole scope h → HistoryFits core whole h → DidList scope start (started_in core plan delays k n start ops node after h)
      start_did scope (fsm_ran first ts last) done fits = one_did around start (mem core state).ty scope first (rules around earlier right).0 done.0 fits.0
      start_did scope h done fits = elim done [ ]

      tests_did : (r : Placed) (scope : Scope) (t p : ℕ) (ts : Turns) (last : List Entry) → TurnsDone in_lanes ops node after scope ts → TurnsFit core ops node after ts → AreEntries scope ops last → EntriesFit ops last
          → (l : ListRun) → Contains (tests_in core plan delays k n start ops node after r scope t p ts last) l → DidList l.scope ops l.entries
      tests_did r scope t p no_turn last done fits d f l c = by (first_or_later (list_in_turn core plan delays k n start ops node after r scope t p last) l [] c)
        where
          by : (list_in_turn core plan delays k n start ops node after r scope t p last ≡ l) ⊎ Contains {X = ListRun} [] l → DidList l.scope ops l.entries
          by (inr x) = absurd (none_there l x)
          by (inl e) = subst (λ (l : ListRun). DidList l.scope ops l.entries) e (one_did (with_state core around state) ops Bit scope last (rules around earlier right).1 d f)
      tests_did r scope t p (more_turn es h ns rest) last done fits d f l c =
          by (first_or_later (list_in_turn core plan delays k n start ops node after r scope t p es) l (tests_in core plan delays k n start ops node after r scope (suc t) (p + list_took core plan delays ops + body_took core plan delays k n start ops node after r t h + list_took core plan delays after) rest last) c)
          (tests_did r scope (suc t) (p + list_took core plan delays ops + body_took core plan delays k n start ops node after r t h + list_took core plan delays after) rest last done.1 fits.1 d f l)
        where
          by : (list_in_turn core plan delays k n start ops node after r scope t p es ≡ l) ⊎ Contains (tests_in core plan delays k n start ops node after r scope (suc t) (p + list_took core plan delays ops + body_took core plan delays k n start ops node after r t h + list_took core plan delays after) rest last) l
              → (Contains (tests_in core plan delays k n start ops node after r scope (suc t) (p + list_took core plan delays ops + body_took core plan delays k n start ops node after r t h + list_took core plan delays after) rest last) l → DidList l.scope ops l.entries) → DidList l.scope ops l.entries
          by (inr x) others = others x
          by (inl e) others = subst (λ (l : ListRun). DidList l.scope ops l.entries) e (one_did (with_state core around state) ops Bit scope es (rules around earlier right).1 done.0.0 fits.0.0)

      nexts_did : (r : Placed) (scope : Scope) (t p : ℕ) (ts : Turns) → TurnsDone in_lanes ops node after scope ts → TurnsFit core ops node after ts → (l : ListRun) → Contains (nexts_in core plan delays k n start ops node after r scope t p ts) l → DidList l.scope after l.entries
      nexts_did r scope t p no_turn done fits l c = absurd (none_there l c)
      nexts_did r scope t p (more_turn es h ns rest) done fits l c =
          by (first_or_later (list_in_turn core plan delays k n start ops node after r scope t (p + list_took core plan delays ops + body_took core plan delays k n start ops node after r t h) ns) l (nexts_in core plan delays k n start ops node after r scope (suc t) (p + list_took core plan delays ops + body_took core plan delays k n start ops node after r t h + list_took core plan delays after) rest) c)
          (nexts_did r scope (suc t) (p + list_took core plan delays ops + body_took core plan delays k n start ops node after r t h + list_took core plan delays after) rest done.1 fits.1 l)
        where
          by : (list_in_turn core plan delays k n start ops node after r scope t (p + list_took core plan delays ops + body_took core plan delays k n start ops node after r t h) ns ≡ l) ⊎ Contains (nexts_in core plan delays k n start ops node after r scope (suc t) (p + list_took core plan delays ops + body_took core plan delays k n start ops node after r t h + list_took core plan delays after) rest) l
              → (Contains (nexts_in core plan delays k n start ops node after r scope (suc t) (p + list_took core plan delays ops + body_took core plan delays k n start ops node after r t h + list_took core plan delays after) rest) l → DidList l.scope after l.entries) → DidList l.scope after l.entries
          by (inr x) others = others x
          by (inl e) others = subst (λ (l : ListRun). DidList l.scope after l.entries) e (one_did (with_state core around state) after (mem core state).ty scope ns (rules around earlier right).2 done.0.3 fits.0.1.1)

      tests_in_run : (q : Scoped) (h : History) → AllDone in_lanes whole q.scope h → HistoryFits core whole h → (l : ListRun) → Contains (test_lists_in core plan delays k n start ops node after q h) l → DidList l.scope ops l.entries
      tests_in_run q (fsm_ran first ts last) done fits l c = tests_did q.run q.scope 0 _ ts last done.1 fits.1.0 done.2 fits.1.1 l c
      tests_in_run q h done fits l c = elim done [ ]

      nexts_in_run : (q : Scoped) (h : History) → AllDone in_lanes whole q.scope h → HistoryFits core whole h → (l : ListRun) → Contains (next_lists_in core plan delays k n start ops node after q h) l → DidList l.scope after l.entries
      nexts_in_run q (fsm_ran first ts last) done fits l c = nexts_did q.run q.scope 0 _ ts done.1 fits.1.0 l c
      nexts_in_run q h done fits l c = elim done [ ]

    -- the lists are the parts of the machine, in its cycles
    starts_same : (qs : List Scoped) → map (list_ran core start) (map (start_list core plan delays k n start ops node after) qs) ≡ map (λ r. first_run (machine r)) (placed qs)
    starts_same [] = refl
    starts_same (q ∷ qs) = ap (λ rest. list_ran core start (start_list core plan delays k n start ops node after q) ∷ rest) (starts_same qs)

    tests_same : (r : Placed) (scope : Scope) (t p : ℕ) (ts : Turns) (last : List Entry) → map (list_ran core ops) (tests_in core plan delays k n start ops node after r scope t p ts last) ≡ runs_of (tests_from p (turns_of core plan delays k n start ops node after r t ts) (list_took core plan delays ops))
    tests_same r scope t p no_turn last = refl
    tests_same r scope t p (more_turn es h ns rest) last = ap (λ xs. record { cycle = p; took = list_took core plan delays ops } ∷ xs) (tests_same r scope (suc t) (p + list_took core plan delays ops + body_took core plan delays k n start ops node after r t h + list_took core plan delays after) rest last)

    nexts_same : (r : Placed) (scope : Scope) (t p : ℕ) (ts : Turns) → map (list_ran core after) (nexts_in core plan delays k n start ops node after r scope t p ts) ≡ nexts_from p (turns_of core plan delays k n start ops node after r t ts)
    nexts_same r scope t p no_turn = refl
    nexts_same r scope t p (more_turn es h ns rest) =
        ap (λ xs. record { cycle = p + list_took core plan delays ops + body_took core plan delays k n start ops node after r t h; took = list_took core plan delays after } ∷ xs) (nexts_same r scope (suc t) (p + list_took core plan delays ops + body_took core plan delays k n start ops node after r t h + list_took core plan delays after) rest)

    tests_of_run : (q : Scoped) (h : History) → AllDone in_lanes whole q.scope h → map (list_ran core ops) (test_lists_in core plan delays k n start ops node after q h) ≡ runs_of (tests_of (machine (record q.run { history = h })))
    tests_of_run q (fsm_ran first ts last) done = tests_same q.run q.scope 0 (suc q.run.cycle + list_took core plan delays start) ts last
    tests_of_run q h done = elim done [ ]

    nexts_of_run : (q : Scoped) (h : History) → AllDone in_lanes whole q.scope h → map (list_ran core after) (next_lists_in core plan delays k n start ops node after q h) ≡ nexts_of (machine (record q.run { history = h }))
    nexts_of_run q (fsm_ran first ts last) done = nexts_same q.run q.scope 0 (suc q.run.cycle + list_took core plan delays start) ts
    nexts_of_run q h done = elim done [ ]

    all_tests : (qs : List Scoped) → AllAreDone whole qs → map (list_ran core ops) (test_lists core plan delays k n start ops node after qs) ≡ runs_of (tests (map machine (placed qs)))
    all_tests [] done = refl
    all_tests (q ∷ qs) done =
        map-append (list_ran core ops) (test_lists_in core plan delays k n start ops node after q q.run.history) (test_lists core plan delays k n start ops node after qs)
        ∙ ap (λ xs. xs ++ map (list_ran core ops) (test_lists core plan delays k n start ops node after qs)) (tests_of_run q q.run.history done.0) ∙ ap (λ xs. runs_of (tests_of (machine q.run)) ++ xs) (all_tests qs done.1)
        ∙ sym (map-append (λ (e : Tested). e.run) (tests_of (machine q.run)) (tests (map machine (placed qs))))

    all_nexts : (qs : List Scoped) → AllAreDone whole qs → map (list_ran core after) (next_lists core plan delays k n start ops node after qs) ≡ nexts (map machine (placed qs))
    all_nexts [] done = refl
    all_nexts (q ∷ qs) done =
        map-append (list_ran core after) (next_lists_in core plan delays k n start ops node after q q.run.history) (next_lists core plan delays k n start ops node after qs)
        ∙ ap (λ xs. xs ++ map (list_ran core after) (next_lists core plan delays k n start ops node after qs)) (nexts_of_run q q.run.history done.0) ∙ ap (λ xs. nexts_of (machine q.run) ++ xs) (all_nexts qs done.1)

    -- the list of a test, with the word by which the FSM went on
    pub record IsTestOf (lists : List ListRun) (e : Tested) : Type 0 where
      pub list : ListRun
      pub there : Contains lists list
      pub run : list_ran core ops list ≡ e.run
      pub goes : (last_word list.entries == 1) ≡ e.goes

    test_of : (r : Placed) (scope : Scope) (t p : ℕ) (ts : Turns) (last : List Entry) → TurnsDone in_lanes ops node after scope ts → (last_word last == 1) ≡ false → (e : Tested) → Contains (tests_from p (turns_of core plan delays k n start ops node after r t ts) (list_took core plan delays ops)) e
        → IsTestOf (tests_in core plan delays k n start ops node after r scope t p ts last) e
    test_of r scope t p no_turn last done stops e c = by (first_or_later (record { run = record { cycle = p; took = list_took core plan delays ops }; goes = false }) e [] c)
      where
        by : (record { run = record { cycle = p; took = list_took core plan delays ops }; goes = false } ≡ e) ⊎ Contains {X = Tested} [] e → IsTestOf (tests_in core plan delays k n start ops node after r scope t p no_turn last) e
        by (inr x) = absurd (none_there e x)
        by (inl same) = record { list = list_in_turn core plan delays k n start ops node after r scope t p last; there = here (list_in_turn core plan delays k n start ops node after r scope t p last) []; run = ap (λ (z : Tested). z.run) same; goes = stops ∙ ap (λ (z : Tested). z.goes) same }
    test_of r scope t p (more_turn es h ns rest) last done stops e c =
        by (first_or_later (record { run = record { cycle = p; took = list_took core plan delays ops }; goes = true }) e (tests_from (p + list_took core plan delays ops + body_took core plan delays k n start ops node after r t h + list_took core plan delays after) (turns_of core plan delays k n start ops node after r (suc t) rest) (list_took core plan delays ops)) c)
        (test_of r scope (suc t) (p + list_took core plan delays ops + body_took core plan delays k n start ops node after r t h + list_took core plan delays after) rest last done.1 stops e)
      where
        by : (record { run = record { cycle = p; took = list_took core plan delays ops }; goes = true } ≡ e) ⊎ Contains (tests_from (p + list_took core plan delays ops + body_took core plan delays k n start ops node after r t h + list_took core plan delays after) (turns_of core plan delays k n start ops node after r (suc t) rest) (list_took core plan delays ops)) e
            → (Contains (tests_from (p + list_took core plan delays ops + body_took core plan delays k n start ops node after r t h + list_took core plan delays after) (turns_of core plan delays k n start ops node after r (suc t) rest) (list_took core plan delays ops)) e
            → IsTestOf (tests_in core plan delays k n start ops node after r scope (suc t) (p + list_took core plan delays ops + body_took core plan delays k n start ops node after r t h + list_took core plan delays after) rest last) e) → IsTestOf (tests_in core plan delays k n start ops node after r scope t p (more_turn es h ns rest) last) e
        by (inr x) others = let o = others x in record { list = o.list; there = there (list_in_turn core plan delays k n start ops node after r scope t p es) o.list _ o.there; run = o.run; goes = o.goes }
        by (inl same) others = record { list = list_in_turn core plan delays k n start ops node after r scope t p es; there = here (list_in_turn core plan delays k n start ops node after r scope t p es) _; run = ap (λ (z : Tested). z.run) same; goes = done.0.1 ∙ ap (λ (z : Tested). z.goes) same }

    test_in : (q : Scoped) (h : History) → AllDone in_lanes whole q.scope h → (e : Tested) → Contains (tests_of (machine (record q.run { history = h }))) e → IsTestOf (test_lists_in core plan delays k n start ops node after q h) e
    test_in q (fsm_ran first ts last) done e c = test_of q.run q.scope 0 (suc q.run.cycle + list_took core plan delays start) ts last done.1 done.3 e c
    test_in q h done e c = elim done [ ]

    a_test : (qs : List Scoped) → AllAreDone whole qs → (e : Tested) → Contains (tests (map machine (placed qs))) e → IsTestOf (test_lists core plan delays k n start ops node after qs) e
    a_test qs done e c =
        let x = joined_from tests_of (map machine (placed qs)) e c in
        let y = mapped_from machine (placed qs) x.0 x.1 in
        let z = mapped_from (λ (q : Scoped). q.run) qs y.0 y.1 in
        let same : machine z.0.run ≡ x.0 = ap machine z.2 ∙ y.2 in
        let o = test_in z.0 z.0.run.history (done_of whole qs done z.0 z.1) e (subst (λ (m : MachineRan). Contains (tests_of m) e) (sym same) x.2) in
        record { list = o.list; there = joined_to (λ (q : Scoped). test_lists_in core plan delays k n start ops node after q q.run.history) qs z.0 o.list z.1 o.there; run = o.run; goes = o.goes }

pub turns_tell : (core : PlainCore) (plan : PlainPlan) (delays : Delays) → ListsWork core → TurnsTell core plan delays
turns_tell core plan delays work s last k n start state ops node after near env around earlier qs first test next begun tested stepped right done fits a b c = record {
  begins = λ t le started. subst (λ xs. IsOnAt (is_on s first.done) (Ends xs) t) (starts_same core plan delays work k n start state ops node after qs)
      (part_does core plan delays work s last n start near env (map (start_list core plan delays k n start ops node after) qs) first begun a start_did_all t le (subst (λ xs. IsOnAt (is_on s first.start) (Begins xs) t) (sym (starts_same core plan delays work k n start state ops node after qs)) started));
  does = λ t le started. subst (λ xs. IsOnAt (is_on s test.done) (Ends xs) t) (all_tests core plan delays work k n start state ops node after qs done)
      (part_does core plan delays work s last (n + length start) ops near env (test_lists core plan delays k n start ops node after qs) test tested b tests_did_all t le (test_starts t started));
  tells = λ t le started e u there ends late.
      let o = a_test core plan delays work k n start state ops node after qs done e there in
      let cycle = ap (λ (x : Ran). x.cycle) o.run in
      let took = ap (λ (x : Ran). x.took) o.run in
      ap (λ w. w == 1) (part_word core plan delays work s last (n + length start) ops near env (test_lists core plan delays k n start ops node after qs) test tested b tests_did_all t le (test_starts t started) o.list u o.there (omega (arith, ends, cycle, took)) late) ∙ o.goes;
  steps = λ t le started. subst (λ xs. IsOnAt (is_on s next.done) (Ends xs) t) (all_nexts core plan delays work k n start state ops node after qs done)
      (part_does core plan delays work s last (n + (length start + (length ops + number_count node))) after near env (next_lists core plan delays k n start ops node after qs) next stepped c nexts_did_all t le (subst (λ xs. IsOnAt (is_on s next.start) (Begins xs) t) (sym (all_nexts core plan delays work k n start state ops node after qs done)) started));
}
  where
    start_did_all : (r : ListRun) → Contains (map (start_list core plan delays k n start ops node after) qs) r → DidList r.scope start r.entries
    start_did_all r x =
        let y = mapped_from (start_list core plan delays k n start ops node after) qs r x in
        subst (λ (r : ListRun). DidList r.scope start r.entries) y.2 (start_did core plan delays work k n start state ops node after around earlier right y.0.scope y.0.run.history (done_of (fsm start state ops node after) qs done y.0 y.1) (fit_of core plan delays (fsm start state ops node after) qs fits y.0 y.1))

    tests_did_all : (r : ListRun) → Contains (test_lists core plan delays k n start ops node after qs) r → DidList r.scope ops r.entries
    tests_did_all r x =
        let y = joined_from (λ (q : Scoped). test_lists_in core plan delays k n start ops node after q q.run.history) qs r x in
        tests_in_run core plan delays work k n start state ops node after around earlier right y.0 y.0.run.history (done_of (fsm start state ops node after) qs done y.0 y.1) (fit_of core plan delays (fsm start state ops node after) qs fits y.0 y.1) r y.2

    nexts_did_all : (r : ListRun) → Contains (next_lists core plan delays k n start ops node after qs) r → DidList r.scope after r.entries
    nexts_did_all r x =
        let y = joined_from (λ (q : Scoped). next_lists_in core plan delays k n start ops node after q q.run.history) qs r x in
        nexts_in_run core plan delays work k n start state ops node after around earlier right y.0 y.0.run.history (done_of (fsm start state ops node after) qs done y.0 y.1) (fit_of core plan delays (fsm start state ops node after) qs fits y.0 y.1) r y.2

    test_starts : (t : ℕ) → IsOnAt (is_on s test.start) (Begins (runs_of (tests (map (machine_of core plan delays k n start ops node after) (placed qs))))) t → IsOnAt (is_on s test.start) (Begins (map (list_ran core ops) (test_lists core plan delays k n start ops node after qs))) t
    test_starts t started = subst (λ xs. IsOnAt (is_on s test.start) (Begins xs) t) (sym (all_tests core plan delays work k n start state ops node after qs done)) started
