-- In each run of a node whose copies at hand are the plan's, so are those of all that happens.
use Rattle.std.proofs.Common.{ℕ, suc, ◌+◌, ◌<◌, Bool, true, false, cond, ℤ, List, [], ◌∷◌, ◌++◌, map, length, arith}
use Rattle.std.specs.Prelude.{◌%◌, flat_map, slice_index}
use Rattle.sp_core.specs.Declarations.{is_among, kind_of}
use Rattle.sp_core.specs.Events.{Standing, inside_at, before, in_group_of, in_turn, Moment, touches, slices, renews, keeps, entry_moments, dram_event, mem_event, reads, writes, rows_turn, first_of, bounds_moments, spans_moments, renewal_in_body, moments}
use Rattle.sp_core.specs.History.{Entry, last_word, History, Groups, Runs, Turns, inner_ran, outer_ran, fsm_ran, branch_ran, moved, no_group, more_group, no_run, masked_run, more_run, no_turn, more_turn}
use Rattle.sp_core.specs.Numbering.{counters_size, spans_size, node_count, number_count}
use Rattle.sp_core.specs.PlainCore.{PlainOp, PlainNode, PlainStages, inner, outer, fsm, branch, load, store, no_stage, more_stage, PlainCore}
use Rattle.sp_core.specs.Scope.{in_lanes, loops_of, group_values}
use Rattle.sp_core.specs.Transfers.{Part, part_of, lengths, has_none, all_offsets, places_of, loaded_at}
use Rattle.sp_plan.specs.PlainPlan.{PlainNodePlan, PlainPlan, mem_plan, node_plan}
use Rattle.sp_time.specs.Beats.{Slot, Run, took_at, starts}
use Rattle.sp_time.specs.Lists.{Each}
use Rattle.sp_machine.specs.Stamps.{Stamped, Copies, copy_of, stamped, later, list_stamped, in_a_row, ◌▸◌, list_run, kept_run}
use Rattle.sp_machine.specs.Timeline.{timed, issued, issued_by, times_of, body_events, stage_events, fresh_events, group_events, group_runs, stage_runs, turn_runs, in_copies, slots_of}
use Rattle.sp_machine.specs.Transfers.{Delays, load_stamped, store_stamped, slice_stamped, load_run, store_run}
use Rattle.sp_core_ports.specs.CopiesLaws.{IsCopy, HasCopy}

module _ (core : PlainCore) (plan : PlainPlan) (delays : Delays) where
  -- the copies at hand are the plan's
  abbrev pub AreCopies : Copies → Type 0
  AreCopies copies = (m : ℕ) → IsCopy core plan m (copies m)

  abbrev pub AllHave : List Stamped → Type 0
  AllHave es = Each (λ (e : Stamped). HasCopy core plan e.copy e.moment) es

  have_append : (xs ys : List Stamped) → AllHave xs → AllHave ys → AllHave (xs ++ ys)
  have_append [] ys h k = k
  have_append (x ∷ xs) ys h k = (h.0, have_append xs ys h.1 k)

  have_later : (by : ℕ) (xs : List Stamped) → AllHave xs → AllHave (later by xs)
  have_later by [] h = tt
  have_later by (x ∷ xs) h = (h.0, have_later by xs h.1)

  then_have : (a b : Run Stamped) → AllHave a.events → AllHave b.events → AllHave (a ▸ b).events
  then_have a b h k = have_append a.events (later a.took b.events) h (have_later a.took b.events k)

  module _ (copies : Copies) (below : AreCopies copies) where
    moment_has : (m : Moment) → HasCopy core plan (copy_of copies m) m
    moment_has (touches e) = below e.mem
    moment_has (slices z) = tt
    moment_has (renews m) = below m
    moment_has (keeps m w) = below m

    stamped_have : (cycle : ℕ) (ms : List Moment) → AllHave (stamped copies cycle ms)
    stamped_have cycle [] = tt
    stamped_have cycle (m ∷ ms) = (moment_has m, stamped_have cycle ms)

    list_have : (cycle_of : ℕ → ℕ) (i n : ℕ) (st : Standing) (ops : List PlainOp) (es : List Entry) → AllHave (list_stamped copies cycle_of i n st ops es)
    list_have cycle_of i n st [] es = tt
    list_have cycle_of i n st (op ∷ ops) [] = tt
    list_have cycle_of i n st (op ∷ ops) (e ∷ es) =
        have_append (stamped copies (cycle_of i) (entry_moments n st op.kind op.mem e)) (list_stamped copies cycle_of (suc i) (suc n) st ops es) (stamped_have (cycle_of i) (entry_moments n st op.kind op.mem e)) (list_have cycle_of (suc i) (suc n) st ops es)

    row_have : (n : ℕ) (st : Standing) (ops : List PlainOp) (es : List Entry) → AllHave (list_run core copies n st ops es).events
    row_have n st ops es = list_have (in_a_row core ops) 0 n st ops es

    kept_have : (n : ℕ) (st : Standing) (ops : List PlainOp) (es : List Entry) (state word : ℕ) → AllHave (kept_run core copies n st ops es state word).events
    kept_have n st ops es state word = have_append (list_run core copies n st ops es).events _ (row_have n st ops es) (below state, tt)

    body_have : (p : PlainNodePlan) (k n g : ℕ) (st : Standing) (owned : List ℕ) (ops : List PlainOp) (values : List (List ℤ)) (groups : List (List Entry)) → AllHave (body_events core plan delays p copies k n g st owned ops values groups)
    body_have p k n g st owned ops (v ∷ values) (es ∷ groups) =
        let fresh : List Stamped = stamped copies (issued core plan delays p g) (flat_map (renewal_in_body core) owned) in
        let here : List Stamped = list_stamped copies (λ i. issued core plan delays p g + slice_index (times_of p) i) 0 n (inside_at st k (in_group_of g 0) v) ops es in
        have_append (fresh ++ here) (body_events core plan delays p copies k n (suc g) st owned ops values groups)
        (have_append fresh here (stamped_have (issued core plan delays p g) (flat_map (renewal_in_body core) owned)) (list_have (λ i. issued core plan delays p g + slice_index (times_of p) i) 0 n (inside_at st k (in_group_of g 0) v) ops es))
        (body_have p k n (suc g) st owned ops values groups)
    body_have p k n g st owned ops [] groups = tt
    body_have p k n g st owned ops (v ∷ values) [] = tt

    -- transfers
    module _ (delay : ℕ → ℕ) (n : ℕ) (st : Standing) (r m : ℕ) (parts : List Part) where
      loads_have : (j : ℕ) (offsets : List (List ℕ)) (words : List ℕ) → AllHave (load_stamped delay core copies n st r m parts j offsets words)
      loads_have j (o ∷ offsets) (w ∷ words) = (moment_has (dram_event core n st r (places_of parts o) (reads w)), (moment_has (mem_event core n st m (loaded_at core (kind_of core m) m o) (writes w)), loads_have (suc j) offsets words))
      loads_have j [] words = tt
      loads_have j (o ∷ offsets) [] = tt

      stores_have : (j : ℕ) (offsets : List (List ℕ)) (words : List ℕ) → AllHave (store_stamped delay core copies n st r m parts j offsets words)
      stores_have j (o ∷ offsets) (w ∷ words) = (moment_has (mem_event core n st m o (reads w)), (moment_has (dram_event core n st r (places_of parts o) (writes w)), stores_have (suc j) offsets words))
      stores_have j [] words = tt
      stores_have j (o ∷ offsets) [] = tt

      slice_has : (es : List Stamped) → AllHave es → AllHave (slice_stamped delay core copies n st parts es)
      slice_has es h = go (has_none (lengths parts))
        where
          asked : Moment
          asked = slices (record { number = n; standing = st; firsts = map first_of parts; lengths = lengths parts })

          go : (b : Bool) → AllHave (elim b as (λ _. List Stamped) [ true ↦ [] | false ↦ stamped copies 1 (asked ∷ []) ++ es ])
          go true = tt
          go false = (tt, h)

      load_has : (words : List ℕ) → AllHave (load_run delay core copies n st r m parts words)
      load_has words = slice_has _ (have_append (stamped copies 1 (rows_turn core n st (kind_of core m) m)) _ (stamped_have 1 (rows_turn core n st (kind_of core m) m)) (loads_have 0 (all_offsets parts) words))

      store_has : (words : List ℕ) → AllHave (store_run delay core copies n st r m parts words)
      store_has words = slice_has _ (stores_have 0 (all_offsets parts) words)

  -- outer bodies
  abbrev TableHas : List (List (Run Stamped)) → Type 0
  TableHas rows = Each (λ row. Each (λ (r : Run Stamped). AllHave r.events) row) rows

  module _ (slots : List Slot) (runs : List (List (Run Stamped))) where
    staged_have : (g s : ℕ) (row : List (Run Stamped)) → Each (λ (r : Run Stamped). AllHave r.events) row → AllHave (stage_events core plan delays slots runs g s row)
    staged_have g s [] h = tt
    staged_have g s (r ∷ row) h = have_append (later (starts slots (took_at runs) g s) r.events) (stage_events core plan delays slots runs g (suc s) row) (have_later (starts slots (took_at runs) g s) r.events h.0) (staged_have g (suc s) row h.1)

    fresh_have : (p : PlainNodePlan) (stages : PlainStages) (copies : Copies) → AreCopies copies → (g : ℕ) (ms : List ℕ) → AllHave (fresh_events core plan delays slots runs p stages copies g ms)
    fresh_have p stages copies below g [] = tt
    fresh_have p stages copies below g (m ∷ ms) = (below m, fresh_have p stages copies below g ms)

    grouped_have : (p : PlainNodePlan) (stages : PlainStages) (copies : Copies) (owned : List ℕ) → ((g : ℕ) → AreCopies (in_copies core plan delays owned g copies)) → (g : ℕ) (rows : List (List (Run Stamped))) → TableHas rows → AllHave (group_events core plan delays slots runs p stages copies owned g rows)
    grouped_have p stages copies owned below g [] h = tt
    grouped_have p stages copies owned below g (row ∷ rows) h =
        let fresh : List Stamped = fresh_events core plan delays slots runs p stages (in_copies core plan delays owned g copies) g owned in
        let here : List Stamped = stage_events core plan delays slots runs g 0 row in
        have_append (fresh ++ here) (group_events core plan delays slots runs p stages copies owned (suc g) rows)
        (have_append fresh here (fresh_have p stages (in_copies core plan delays owned g copies) (below g) g owned) (staged_have g 0 row h.0))
        (grouped_have p stages copies owned below (suc g) rows h.1)

  -- each memory has a copy, so a group's number, around and around, is one
  module _ (some : (m : ℕ) → m < length core.mems → 0 < (mem_plan plan m).depth) where
    group_copies : (owned : List ℕ) (g : ℕ) (copies : Copies) → AreCopies copies → AreCopies (in_copies core plan delays owned g copies)
    group_copies owned g copies below m l = go (is_among m owned)
      where
        go : (b : Bool) → cond b (g % (mem_plan plan m).depth) (copies m) < (mem_plan plan m).depth
        go true = under g (mem_plan plan m).depth (some m l)
          where
            under : (a d : ℕ) → 0 < d → a % d < d
            under a d p = omega arith
        go false = below m l

    mutual
      unfolding timed group_runs stage_runs turn_runs moments

      pub node_has : (node : PlainNode) (k n : ℕ) (st : Standing) (copies : Copies) (h : History) → AreCopies copies → AllHave (timed core plan delays node k n st copies h).events
      node_has (inner counters owned ops comb) k n st copies (inner_ran bs counts groups) below =
          have_append (stamped copies 0 (bounds_moments n (inside_at st k before []) counters bs)) _ (stamped_have copies below 0 (bounds_moments n (inside_at st k before []) counters bs))
          (body_have copies below (issued_by core ops (node_plan plan k)) k (n + counters_size counters) 0 st owned ops (group_values (loops_of in_lanes counters bs)) groups)
      node_has (outer counters style owned stages) k n st copies (outer_ran bs counts groups) below =
          let runs : List (List (Run Stamped)) = group_runs core plan delays stages k (n + counters_size counters) 0 st owned copies (group_values (loops_of in_lanes counters bs)) groups in
          have_append (stamped copies 0 (bounds_moments n (inside_at st k before []) counters bs)) _ (stamped_have copies below 0 (bounds_moments n (inside_at st k before []) counters bs))
          (grouped_have (slots_of (node_plan plan k)) runs (node_plan plan k) stages copies owned (λ g. group_copies owned g copies below) 0 runs
          (groups_have stages k (n + counters_size counters) 0 st owned copies (group_values (loops_of in_lanes counters bs)) groups below))
      node_has (fsm start state test body next) k n st copies (fsm_ran first ts last) below =
          let begin : Run Stamped = kept_run core copies n (inside_at st k before []) start first state (last_word first) in
          let rest : Run Stamped = turn_runs core plan delays start state test body next k n 0 st copies ts last in
          have_later 1 (begin ▸ rest).events (then_have begin rest (kept_have copies below n (inside_at st k before []) start first state (last_word first)) (turns_have start state test body next k n 0 st copies ts last below))
      node_has (branch test first second) k n st copies (branch_ran es true h) below =
          let asked : Run Stamped = list_run core copies n (inside_at st k (in_turn 0) []) test es in
          let taken : Run Stamped = timed core plan delays first (suc k) (n + length test) (inside_at st k (in_turn 0) []) copies h in
          have_later 1 (asked ▸ taken).events (then_have asked taken (row_have copies below n (inside_at st k (in_turn 0) []) test es) (node_has first (suc k) (n + length test) (inside_at st k (in_turn 0) []) copies h below))
      node_has (branch test first second) k n st copies (branch_ran es false h) below =
          let asked : Run Stamped = list_run core copies n (inside_at st k (in_turn 0) []) test es in
          let taken : Run Stamped = timed core plan delays second (suc k + node_count first) (n + (length test + number_count first)) (inside_at st k (in_turn 0) []) copies h in
          have_later 1 (asked ▸ taken).events
          (then_have asked taken (row_have copies below n (inside_at st k (in_turn 0) []) test es) (node_has second (suc k + node_count first) (n + (length test + number_count first)) (inside_at st k (in_turn 0) []) copies h below))
      node_has (load r m spans) k n st copies (moved taken words) below =
          have_append (stamped copies 0 (spans_moments n st spans taken)) _ (stamped_have copies below 0 (spans_moments n st spans taken)) (load_has copies below (delays k st.path) (n + spans_size spans) st r m (map part_of taken) words)
      node_has (store r m spans) k n st copies (moved taken words) below =
          have_append (stamped copies 0 (spans_moments n st spans taken)) _ (stamped_have copies below 0 (spans_moments n st spans taken)) (store_has copies below (delays k st.path) (n + spans_size spans) st r m (map part_of taken) words)
      node_has node k n st copies h below = stamped_have copies below 0 (moments core in_lanes node k n st h)

      groups_have : (stages : PlainStages) (k n g : ℕ) (st : Standing) (owned : List ℕ) (copies : Copies) (values : List (List ℤ)) (groups : Groups) → AreCopies copies → TableHas (group_runs core plan delays stages k n g st owned copies values groups)
      groups_have stages k n g st owned copies (v ∷ values) (more_group rs rest) below =
          (stages_have stages k n 0 g (suc k) v st (in_copies core plan delays owned g copies) rs (group_copies owned g copies below), groups_have stages k n (suc g) st owned copies values rest below)
      groups_have stages k n g st owned copies [] groups below = tt
      groups_have stages k n g st owned copies (v ∷ values) no_group below = tt

      stages_have : (stages : PlainStages) (k n s g j : ℕ) (v : List ℤ) (st : Standing) (copies : Copies) (rs : Runs) → AreCopies copies → Each (λ (r : Run Stamped). AllHave r.events) (stage_runs core plan delays stages k n s g j v st copies rs)
      stages_have (more_stage first last comb node rest) k n s g j v st copies (more_run h rs) below =
          (node_has node j n (inside_at st k (in_group_of g s) v) copies h below, stages_have rest k (n + number_count node) (suc s) g (j + node_count node) v st copies rs below)
      stages_have (more_stage first last comb node rest) k n s g j v st copies (masked_run rs) below =
          (tt, stages_have rest k (n + number_count node) (suc s) g (j + node_count node) v st copies rs below)
      stages_have (more_stage first last comb node rest) k n s g j v st copies no_run below = tt
      stages_have no_stage k n s g j v st copies rs below = tt

      turns_have : (start : List PlainOp) (state : ℕ) (test : List PlainOp) (body : PlainNode) (next : List PlainOp) (k n t : ℕ) (st : Standing) (copies : Copies) (ts : Turns) (last : List Entry) → AreCopies copies → AllHave (turn_runs core plan delays start state test body next k n t st copies ts last).events
      turns_have start state test body next k n t st copies no_turn last below = row_have copies below (n + length start) (inside_at st k (in_turn t) []) test last
      turns_have start state test body next k n t st copies (more_turn es h ns rest) last below =
          let at : Standing = inside_at st k (in_turn t) [] in
          let tested : Run Stamped = list_run core copies (n + length start) at test es in
          let body_run : Run Stamped = timed core plan delays body (suc k) (n + (length start + length test)) at copies h in
          let next_run : Run Stamped = kept_run core copies (n + (length start + (length test + number_count body))) at next ns state (last_word ns) in
          let others : Run Stamped = turn_runs core plan delays start state test body next k n (suc t) st copies rest last in
          then_have tested (body_run ▸ next_run ▸ others) (row_have copies below (n + length start) at test es)
          (then_have body_run (next_run ▸ others) (node_has body (suc k) (n + (length start + length test)) at copies h below)
          (then_have next_run others (kept_have copies below (n + (length start + (length test + number_count body))) at next ns state (last_word ns)) (turns_have start state test body next k n (suc t) st copies rest last below)))
