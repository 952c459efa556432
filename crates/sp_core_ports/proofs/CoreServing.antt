-- In each run of a node, each read of a memory with banks has a reader in the node.
use Rattle.std.proofs.Common.{◌≡◌, ℕ, zero, suc, ◌+◌, ◌≤◌, inl, Bool, true, false, ℤ, List, [], ◌∷◌, ◌++◌, map, length, arith, refl}
use Rattle.std.proofs.lemmas.Bool.{and_parts, eq-eqb, true≢false, false≢true}
use Rattle.std.specs.Prelude.{◌==◌, flat_map, slice_index, slice_index_or}
use Rattle.sp_core.specs.Around.{Around, within}
use Rattle.sp_core.specs.Events.{Standing, inside_at, before, in_group_of, in_turn, Moment, touches, slices, renews, keeps, bounds_moments, spans_moments, renewal_in_body, moments}
use Rattle.sp_core.specs.History.{Entry, last_word, History, Groups, Runs, Turns, inner_ran, outer_ran, fsm_ran, branch_ran, moved, no_group, more_group, no_run, masked_run, more_run, no_turn, more_turn}
use Rattle.sp_core.specs.Invariant.{owned_in, IsRight, AreRight}
use Rattle.sp_core.specs.NodeRules.{with_state}
use Rattle.sp_core.specs.Numbering.{counters_size, spans_size, node_count, number_count, number_count_in}
use Rattle.sp_core.specs.PlainCore.{PlainOp, PlainNode, PlainStages, inner, outer, fsm, branch, load, store, sparse, no_stage, more_stage, PlainCore}
use Rattle.sp_core.specs.Scope.{in_lanes, loops_of, group_values}
use Rattle.sp_core.specs.Transfers.{part_of}
use Rattle.sp_plan.specs.Copies as copies_of
use Rattle.sp_plan.specs.PlainPlan.{PlainNodePlan, PlainPlan, node_plan}
use Rattle.sp_plan.specs.Slots.{runs_of, run_at as stage_at}
use Rattle.sp_time.specs.Beats.{Slot, Run, no_time, run_at, took_at, starts}
use Rattle.sp_time.specs.Lists.{Each}
use Rattle.sp_machine.specs.InOrder.{is_done}
use Rattle.sp_machine.specs.Stamps.{Stamped, Copies, stamped, later, list_stamped, ◌▸◌, list_run, kept_run}
use Rattle.sp_machine.specs.Timeline.{timed, issued, issued_by, times_of, body_events, stage_events, fresh_events, group_events, group_runs, stage_runs, turn_runs, in_copies, slots_of}
use Rattle.sp_machine.specs.Transfers.{Delays}
use Rattle.sp_machine.proofs.AtOnce.{renewals_idle}
use Rattle.sp_overlap.specs.Whole.{IsTimed, AreTimed}
use Rattle.sp_ports.proofs.Inners.{bounds_ports}
use Rattle.sp_core_ports.specs.UsedReaders.{Reader, reader_if, readers_in, readers_in_stages}
use Rattle.sp_core_ports.proofs.UsedMoving.{spans_ports}
use Rattle.sp_core_ports.specs.CoreServed.{IsOneOf, IsServed}
use Rattle.sp_core_ports.proofs.CoreReading.{AllServed, ListServes, Serves, AllServe, one_left, one_right, served_append, served_later, served_more, ports_served, whole_served, row_served, kept_served, then_served, load_served, store_served}

module _ (core : PlainCore) where
  -- readers of the parts of a node
  module _ (start : List PlainOp) (state : ℕ) (test : List PlainOp) (body : PlainNode) (next : List PlainOp) (n : ℕ) (serve : Serves core n (fsm start state test body next)) where
    abbrev of_start : (m : ℕ) → List Reader
    of_start m = reader_if (copies_of.reads core m start) n (length start)

    abbrev of_test : (m : ℕ) → List Reader
    of_test m = reader_if (copies_of.reads core m test) (n + length start) (length test)

    abbrev of_body : (m : ℕ) → List Reader
    of_body m = readers_in core m (n + (length start + length test)) body

    abbrev of_next : (m : ℕ) → List Reader
    of_next m = reader_if (copies_of.reads core m next) (n + (length start + (length test + number_count body))) (length next)

    pub start_serves : ListServes core n start
    start_serves m r i = serve m r (one_left r (of_start m ++ of_test m) (of_body m ++ of_next m) (one_left r (of_start m) (of_test m) i))

    pub test_serves : ListServes core (n + length start) test
    test_serves m r i = serve m r (one_left r (of_start m ++ of_test m) (of_body m ++ of_next m) (one_right r (of_start m) (of_test m) i))

    pub body_serves : Serves core (n + (length start + length test)) body
    body_serves m r i = serve m r (one_right r (of_start m ++ of_test m) (of_body m ++ of_next m) (one_left r (of_body m) (of_next m) i))

    pub next_serves : ListServes core (n + (length start + (length test + number_count body))) next
    next_serves m r i = serve m r (one_right r (of_start m ++ of_test m) (of_body m ++ of_next m) (one_right r (of_body m) (of_next m) i))

  module _ (test : List PlainOp) (first second : PlainNode) (n : ℕ) (serve : Serves core n (branch test first second)) where
    abbrev of_asked : (m : ℕ) → List Reader
    of_asked m = reader_if (copies_of.reads core m test) n (length test)

    abbrev of_first : (m : ℕ) → List Reader
    of_first m = readers_in core m (n + length test) first

    abbrev of_second : (m : ℕ) → List Reader
    of_second m = readers_in core m (n + (length test + number_count first)) second

    pub asked_serves : ListServes core n test
    asked_serves m r i = serve m r (one_left r (of_asked m) (of_first m ++ of_second m) i)

    pub first_serves : Serves core (n + length test) first
    first_serves m r i = serve m r (one_right r (of_asked m) (of_first m ++ of_second m) (one_left r (of_first m) (of_second m) i))

    pub second_serves : Serves core (n + (length test + number_count first)) second
    second_serves m r i = serve m r (one_right r (of_asked m) (of_first m ++ of_second m) (one_right r (of_first m) (of_second m) i))

  module _ (first last : ℕ) (comb : Bool) (node : PlainNode) (rest : PlainStages) (n : ℕ) (serve : AllServe core n (more_stage first last comb node rest)) where
    pub node_serves : Serves core n node
    node_serves m r i = serve m r (one_left r (readers_in core m n node) (readers_in_stages core m (n + number_count node) rest) i)

    pub rest_serve : AllServe core (n + number_count node) rest
    rest_serve m r i = serve m r (one_right r (readers_in core m n node) (readers_in_stages core m (n + number_count node) rest) i)

module _ (core : PlainCore) (plan : PlainPlan) (delays : Delays) where
  -- inner bodies
  idle_served : (u : ℕ) (copies : Copies) (cycle : ℕ) (ms : List Moment) → Each (λ m. is_done core m ≡ false) ms → AllServed core u (stamped copies cycle ms)
  idle_served u copies cycle [] h = tt
  idle_served u copies cycle (m ∷ ms) h = (go m h.0, idle_served u copies cycle ms h.1)
    where
      go : (m : Moment) → is_done core m ≡ false → IsServed core u m
      go (touches e) q = absurd (true≢false q)
      go (slices z) q = tt
      go (renews m) q = tt
      go (keeps m w) q = tt

  body_served : (u : ℕ) (p : PlainNodePlan) (copies : Copies) (k n g : ℕ) (st : Standing) (owned : List ℕ) (ops : List PlainOp) (values : List (List ℤ)) (groups : List (List Entry)) → n + length ops ≤ u
      → ListServes core n ops → AllServed core u (body_events core plan delays p copies k n g st owned ops values groups)
  body_served u p copies k n g st owned ops (v ∷ values) (es ∷ groups) l h =
      let fresh : List Stamped = stamped copies (issued core plan delays p g) (flat_map (renewal_in_body core) owned) in
      let here : List Stamped = list_stamped copies (λ i. issued core plan delays p g + slice_index (times_of p) i) 0 n (inside_at st k (in_group_of g 0) v) ops es in
      served_append core u (fresh ++ here) (body_events core plan delays p copies k n (suc g) st owned ops values groups)
      (served_append core u fresh here (idle_served u copies (issued core plan delays p g) (flat_map (renewal_in_body core) owned) (renewals_idle core owned))
      (whole_served core n u copies (λ i. issued core plan delays p g + slice_index (times_of p) i) (inside_at st k (in_group_of g 0) v) ops es l h))
      (body_served u p copies k n (suc g) st owned ops values groups l h)
  body_served u p copies k n g st owned ops [] groups l h = tt
  body_served u p copies k n g st owned ops (v ∷ values) [] l h = tt

  -- the runs of stages in a group, each by the end of its stage
  abbrev pub RowServed : PlainStages → (n : ℕ) → List (Run Stamped) → Type 0
  RowServed stages n [] = Unit {0}
  RowServed no_stage n (r ∷ row) = ⊥
  RowServed (more_stage first last comb node rest) n (r ∷ row) = AllServed core (n + number_count node) r.events × RowServed rest (n + number_count node) row

  abbrev pub TableServed : PlainStages → (n : ℕ) → List (List (Run Stamped)) → Type 0
  TableServed stages n rows = Each (RowServed stages n) rows

  row_at : (stages : PlainStages) (n : ℕ) (row : List (Run Stamped)) → RowServed stages n row → (s : ℕ) → AllServed core (stage_at (runs_of n stages) s).until (slice_index_or row s no_time).events
  row_at stages n [] h s = tt
  row_at no_stage n (r ∷ row) h s = absurd h
  row_at (more_stage first last comb node rest) n (r ∷ row) h zero = h.0
  row_at (more_stage first last comb node rest) n (r ∷ row) h (suc s) = row_at rest (n + number_count node) row h.1 s

  pub table_at : (stages : PlainStages) (n : ℕ) (rows : List (List (Run Stamped))) → TableServed stages n rows → (g s : ℕ) → AllServed core (stage_at (runs_of n stages) s).until (run_at rows g s).events
  table_at stages n [] h g s = tt
  table_at stages n (row ∷ rows) h zero s = row_at stages n row h.0 s
  table_at stages n (row ∷ rows) h (suc g) s = table_at stages n rows h.1 g s

  -- in an outer body
  module _ (u : ℕ) (slots : List Slot) (runs : List (List (Run Stamped))) where
    staged_served : (stages : PlainStages) (n g s : ℕ) (row : List (Run Stamped)) → n + number_count_in stages ≤ u → RowServed stages n row → AllServed core u (stage_events core plan delays slots runs g s row)
    staged_served stages n g s [] l h = tt
    staged_served no_stage n g s (r ∷ row) l h = absurd h
    staged_served (more_stage first last comb node rest) n g s (r ∷ row) l h =
        served_append core u (later (starts slots (took_at runs) g s) r.events) (stage_events core plan delays slots runs g (suc s) row)
        (served_later core u (starts slots (took_at runs) g s) r.events (served_more core (n + number_count node) u (omega arith) r.events h.0))
        (staged_served rest (n + number_count node) g (suc s) row (omega arith) h.1)

    fresh_served : (p : PlainNodePlan) (stages : PlainStages) (copies : Copies) (g : ℕ) (ms : List ℕ) → AllServed core u (fresh_events core plan delays slots runs p stages copies g ms)
    fresh_served p stages copies g [] = tt
    fresh_served p stages copies g (m ∷ ms) = (tt, fresh_served p stages copies g ms)

    grouped_served : (p : PlainNodePlan) (stages : PlainStages) (n : ℕ) (copies : Copies) (owned : List ℕ) (g : ℕ) (rows : List (List (Run Stamped))) → n + number_count_in stages ≤ u → TableServed stages n rows → AllServed core u (group_events core plan delays slots runs p stages copies owned g rows)
    grouped_served p stages n copies owned g [] l h = tt
    grouped_served p stages n copies owned g (row ∷ rows) l h =
        let fresh : List Stamped = fresh_events core plan delays slots runs p stages (in_copies core plan delays owned g copies) g owned in
        let here : List Stamped = stage_events core plan delays slots runs g 0 row in
        served_append core u (fresh ++ here) (group_events core plan delays slots runs p stages copies owned (suc g) rows)
        (served_append core u fresh here (fresh_served p stages (in_copies core plan delays owned g copies) g owned) (staged_served stages n g 0 row l h.0))
        (grouped_served p stages n copies owned (suc g) rows l h.1)

  mutual
    unfolding timed group_runs stage_runs turn_runs moments

    pub node_served : (node : PlainNode) (k n : ℕ) (st : Standing) (copies : Copies) (h : History) (around : Around) (earlier : List ℕ) → IsRight core around earlier node → IsTimed node → Serves core n node
        → AllServed core (n + number_count node) (timed core plan delays node k n st copies h).events
    node_served (inner counters owned ops comb) k n st copies (inner_ran bs counts groups) around earlier right t serve =
        let u : ℕ = n + (counters_size counters + length ops) in
        let bounds = bounds_moments n (inside_at st k before []) counters bs in
        let body : List Stamped = body_events core plan delays (issued_by core ops (node_plan plan k)) copies k (n + counters_size counters) 0 st owned ops (group_values (loops_of in_lanes counters bs)) groups in
        served_append core u (stamped copies 0 bounds) body (ports_served core u copies 0 bounds (bounds_ports core around n (inside_at st k before []) counters bs (and_parts _ _ (and_parts _ _ (and_parts _ _ right).0).0).1))
        (body_served u (issued_by core ops (node_plan plan k)) copies k (n + counters_size counters) 0 st owned ops (group_values (loops_of in_lanes counters bs)) groups (omega arith) serve)
    node_served (outer counters style owned stages) k n st copies (outer_ran bs counts groups) around earlier right t serve =
        let u : ℕ = n + (counters_size counters + number_count_in stages) in
        let bounds = bounds_moments n (inside_at st k before []) counters bs in
        let runs : List (List (Run Stamped)) = group_runs core plan delays stages k (n + counters_size counters) 0 st owned copies (group_values (loops_of in_lanes counters bs)) groups in
        served_append core u (stamped copies 0 bounds) _ (ports_served core u copies 0 bounds (bounds_ports core around n (inside_at st k before []) counters bs (and_parts _ _ (and_parts _ _ (and_parts _ _ right.0).0).0).1))
        (grouped_served u (slots_of (node_plan plan k)) runs (node_plan plan k) stages (n + counters_size counters) copies owned 0 runs (omega arith)
        (groups_served stages k (n + counters_size counters) 0 st owned copies (group_values (loops_of in_lanes counters bs)) groups (within around counters owned) (earlier ++ owned) right.1 t.1 serve))
    node_served (fsm start state test body next) k n st copies (fsm_ran first ts last) around earlier right t serve =
        let u : ℕ = n + ((length start + length test) + (number_count body + length next)) in
        let begin : Run Stamped = kept_run core copies n (inside_at st k before []) start first state (last_word first) in
        let rest : Run Stamped = turn_runs core plan delays start state test body next k n 0 st copies ts last in
        served_later core u 1 (begin ▸ rest).events
        (then_served core u begin rest (kept_served core n u copies (inside_at st k before []) start first state (last_word first) (omega arith)
        (start_serves core start state test body next n serve))
        (turns_served start state test body next k n 0 st copies ts last (with_state core around state) (earlier ++ state ∷ []) right.1 t serve))
    node_served (branch test first second) k n st copies (branch_ran es true h) around earlier right t serve =
        let u : ℕ = n + (length test + (number_count first + number_count second)) in
        let asked : Run Stamped = list_run core copies n (inside_at st k (in_turn 0) []) test es in
        let taken : Run Stamped = timed core plan delays first (suc k) (n + length test) (inside_at st k (in_turn 0) []) copies h in
        served_later core u 1 (asked ▸ taken).events
        (then_served core u asked taken (row_served core n u copies (inside_at st k (in_turn 0) []) test es (omega arith) (asked_serves core test first second n serve))
        (served_more core (n + length test + number_count first) u (omega arith) taken.events
        (node_served first (suc k) (n + length test) (inside_at st k (in_turn 0) []) copies h around earlier right.1 t.0
        (first_serves core test first second n serve))))
    node_served (branch test first second) k n st copies (branch_ran es false h) around earlier right t serve =
        let u : ℕ = n + (length test + (number_count first + number_count second)) in
        let asked : Run Stamped = list_run core copies n (inside_at st k (in_turn 0) []) test es in
        let taken : Run Stamped = timed core plan delays second (suc k + node_count first) (n + (length test + number_count first)) (inside_at st k (in_turn 0) []) copies h in
        served_later core u 1 (asked ▸ taken).events
        (then_served core u asked taken (row_served core n u copies (inside_at st k (in_turn 0) []) test es (omega arith) (asked_serves core test first second n serve))
        (served_more core (n + (length test + number_count first) + number_count second) u (omega arith) taken.events
        (node_served second (suc k + node_count first) (n + (length test + number_count first)) (inside_at st k (in_turn 0) []) copies h around (earlier ++ owned_in first) right.2 t.1
        (second_serves core test first second n serve))))
    node_served (load r m spans) k n st copies (moved taken words) around earlier right t serve =
        let u : ℕ = n + (spans_size spans + 1) in
        let q = and_parts _ _ (and_parts _ _ right).0 in
        served_append core u (stamped copies 0 (spans_moments n st spans taken)) _ (ports_served core u copies 0 (spans_moments n st spans taken) (spans_ports core around n st spans taken (and_parts _ _ q.0).1))
        (load_served core u plan (delays k st.path) copies (n + spans_size spans) st r m (map part_of taken) words)
    node_served (store r m spans) k n st copies (moved taken words) around earlier right t serve =
        let u : ℕ = n + (spans_size spans + 1) in
        let inside : (n + spans_size spans) + 1 ≤ u = omega arith in
        let q = and_parts _ _ (and_parts _ _ right).0 in
        served_append core u (stamped copies 0 (spans_moments n st spans taken)) _ (ports_served core u copies 0 (spans_moments n st spans taken) (spans_ports core around n st spans taken (and_parts _ _ q.0).1))
        (store_served core u plan (delays k st.path) copies (n + spans_size spans) st r m (map part_of taken) inside
        (serve m (record { from = n + spans_size spans; until = n + spans_size spans + 1 }) (only (m == m) (eq-eqb m m refl))) words)
      where
        only : (b : Bool) → b ≡ true → IsOneOf (record { from = n + spans_size spans; until = n + spans_size spans + 1 }) (reader_if b (n + spans_size spans) 1)
        only true e = inl refl
        only false e = absurd (false≢true e)
    node_served (sparse kind r m places spans count par) k n st copies h around earlier right t serve = absurd t
    node_served node k n st copies h around earlier right t serve = tt

    pub groups_served : (stages : PlainStages) (k n g : ℕ) (st : Standing) (owned : List ℕ) (copies : Copies) (values : List (List ℤ)) (groups : Groups) (around : Around) (earlier : List ℕ) → AreRight core around earlier stages → AreTimed stages → AllServe core n stages
        → TableServed stages n (group_runs core plan delays stages k n g st owned copies values groups)
    groups_served stages k n g st owned copies (v ∷ values) (more_group rs rest) around earlier right t serve = (
      stages_served stages k n 0 g (suc k) v st (in_copies core plan delays owned g copies) rs around earlier right t serve,
      groups_served stages k n (suc g) st owned copies values rest around earlier right t serve,
    )
    groups_served stages k n g st owned copies [] groups around earlier right t serve = tt
    groups_served stages k n g st owned copies (v ∷ values) no_group around earlier right t serve = tt

    stages_served : (stages : PlainStages) (k n s g j : ℕ) (v : List ℤ) (st : Standing) (copies : Copies) (rs : Runs) (around : Around) (earlier : List ℕ) → AreRight core around earlier stages → AreTimed stages → AllServe core n stages
        → RowServed stages n (stage_runs core plan delays stages k n s g j v st copies rs)
    stages_served (more_stage first last comb node rest) k n s g j v st copies (more_run h rs) around earlier right t serve = (
      node_served node j n (inside_at st k (in_group_of g s) v) copies h around earlier right.0 t.0 (node_serves core first last comb node rest n serve),
      stages_served rest k (n + number_count node) (suc s) g (j + node_count node) v st copies rs around (earlier ++ owned_in node) right.1 t.1 (rest_serve core first last comb node rest n serve),
    )
    stages_served (more_stage first last comb node rest) k n s g j v st copies (masked_run rs) around earlier right t serve =
        (tt, stages_served rest k (n + number_count node) (suc s) g (j + node_count node) v st copies rs around (earlier ++ owned_in node) right.1 t.1 (rest_serve core first last comb node rest n serve))
    stages_served (more_stage first last comb node rest) k n s g j v st copies no_run around earlier right t serve = tt
    stages_served no_stage k n s g j v st copies rs around earlier right t serve = tt

    turns_served : (start : List PlainOp) (state : ℕ) (test : List PlainOp) (body : PlainNode) (next : List PlainOp) (k n t : ℕ) (st : Standing) (copies : Copies) (ts : Turns) (last : List Entry) (around : Around) (earlier : List ℕ) → IsRight core around earlier body → IsTimed body → Serves core n (fsm start state test body next)
        → AllServed core (n + ((length start + length test) + (number_count body + length next))) (turn_runs core plan delays start state test body next k n t st copies ts last).events
    turns_served start state test body next k n t st copies no_turn last around earlier right w serve =
        row_served core (n + length start) (n + ((length start + length test) + (number_count body + length next))) copies (inside_at st k (in_turn t) []) test last (omega arith)
        (test_serves core start state test body next n serve)
    turns_served start state test body next k n t st copies (more_turn es h ns rest) last around earlier right w serve =
        let u : ℕ = n + ((length start + length test) + (number_count body + length next)) in
        let at : Standing = inside_at st k (in_turn t) [] in
        let tested : Run Stamped = list_run core copies (n + length start) at test es in
        let body_run : Run Stamped = timed core plan delays body (suc k) (n + (length start + length test)) at copies h in
        let next_run : Run Stamped = kept_run core copies (n + (length start + (length test + number_count body))) at next ns state (last_word ns) in
        let others : Run Stamped = turn_runs core plan delays start state test body next k n (suc t) st copies rest last in
        then_served core u tested (body_run ▸ next_run ▸ others)
        (row_served core (n + length start) u copies at test es (omega arith) (test_serves core start state test body next n serve))
        (then_served core u body_run (next_run ▸ others)
        (served_more core (n + (length start + length test) + number_count body) u (omega arith) body_run.events
        (node_served body (suc k) (n + (length start + length test)) at copies h around earlier right w
        (body_serves core start state test body next n serve)))
        (then_served core u next_run others
        (kept_served core (n + (length start + (length test + number_count body))) u copies at next ns state (last_word ns) (omega arith)
        (next_serves core start state test body next n serve))
        (turns_served start state test body next k n (suc t) st copies rest last around earlier right w serve)))
