-- The timeline of a run: what happens in it, and in which cycles, by the numbers of a plan. Cycle 0 of a part is the one in
-- which it is started; a part that takes so many cycles lets the next one start that much later. A `Stream` block is told
-- as if its stages were one chain, and a gather, a scatter or a wide
-- transfer as if it were done at once: theirs are still to be said.
use Rattle.std.specs.Prelude.{ℕ, zero, suc, ◌+◌, ◌*◌, ◌%◌, ◌==◌, min, Bool, true, false, ℤ, List, [], ◌∷◌, ◌++◌, map, flat_map, length, slice_index, if◌then◌else◌}
use Rattle.sp_core.specs.Declarations.{is_among}
use Rattle.sp_core.specs.Events.{Standing, inside_at, before, in_group_of, in_turn, renews, bounds_moments, spans_moments, renewal_in_body, moments}
use Rattle.sp_core.specs.Latency.{latency_of_all}
use Rattle.sp_core.specs.History.{Entry, last_word, History, Groups, Runs, Turns, inner_ran, outer_ran, fsm_ran, branch_ran, moved, more_group, masked_run, more_run, no_turn, more_turn}
use Rattle.sp_core.specs.Numbering.{counters_size, spans_size, node_count, number_count}
use Rattle.sp_core.specs.PlainCore.{PlainOp, PlainNode, PlainStages, inner, outer, fsm, branch, load, store, more_stage, PlainCore}
use Rattle.sp_core.specs.Scope.{in_lanes, loops_of, group_values}
use Rattle.sp_core.specs.Transfers.{part_of}
use Rattle.sp_plan.specs.Copies.{used_slots}
use Rattle.sp_plan.specs.PlainPlan.{PlainNodePlan, inner_plan, outer_plan, PlainPlan, mem_plan, node_plan}
use Rattle.sp_time.specs.Beats.{Slot, Run, took_at, first_cycle, starts, whole}
use Rattle.sp_machine.specs.Stamps.{Stamped, Copies, stamp, stamped, later, list_stamped, ◌▸◌, inside_of, list_run, kept_run}
use Rattle.sp_machine.specs.Transfers.{Delays, transfer_took, load_run, store_run}

-- the numbers of a plan for a node
abbrev pub times_of : PlainNodePlan → List ℕ
times_of (inner_plan times ii latency serial) = times
times_of _ = []

abbrev pub interval_of : PlainNodePlan → ℕ
interval_of (inner_plan times ii latency serial) = ii
interval_of _ = 0

abbrev pub latency_of : PlainNodePlan → ℕ
latency_of (inner_plan times ii latency serial) = latency
latency_of _ = 0

abbrev pub slots_from : (slots chains : List ℕ) → List Slot
slots_from (s ∷ slots) (c ∷ chains) = record { slot = s; chain = c } ∷ slots_from slots chains
slots_from _ _ = []

abbrev pub slots_of : PlainNodePlan → List Slot
slots_of (outer_plan slots chains) = slots_from slots chains
slots_of _ = []

abbrev pub slot_numbers : PlainNodePlan → List ℕ
slot_numbers (outer_plan slots chains) = slots
slot_numbers _ = []

-- how long an inner body takes, of so many groups
abbrev pub inner_took : (groups ii latency : ℕ) → ℕ
inner_took zero ii latency = 2
inner_took (suc n) ii latency = 2 + (n * ii + latency)

-- whether nothing in an inner body takes time, as in one without operations
abbrev pub is_at_once : PlainCore → List PlainOp → PlainNodePlan → Bool
is_at_once core ops p = latency_of p + latency_of_all core ops == 0

-- by which its groups are issued: all in the cycle after the start where nothing takes time, for then its circuit is over
-- in that cycle
abbrev pub issued_by : PlainCore → List PlainOp → PlainNodePlan → PlainNodePlan
issued_by core ops p = if is_at_once core ops p then inner_plan (times_of p) 0 0 false else p

-- a stage whose lanes are all masked
abbrev pub masked_stage : Run Stamped
masked_stage = record { took = 2; events = [] }

abbrev pub least : List ℕ → ℕ
least [] = 0
least (n ∷ []) = n
least (n ∷ m ∷ ns) = min n (least (m ∷ ns))

module _ (core : PlainCore) (plan : PlainPlan) (delays : Delays) where
  -- in a group a memory that the loop owns is in the copy of that group's number, around and around
  abbrev pub in_copies : (owned : List ℕ) → (group : ℕ) → Copies → Copies
  in_copies owned g copies m = if is_among m owned then g % (mem_plan plan m).depth else copies m

  -- the first slot of the stages that use a memory
  abbrev pub first_slot : PlainNodePlan → PlainStages → (mem : ℕ) → ℕ
  first_slot p stages m = least (used_slots core m stages (slot_numbers p))

  -- an inner body: its groups are issued from the cycle after the start on
  abbrev pub issued : PlainNodePlan → (group : ℕ) → ℕ
  issued p g = 1 + g * interval_of p

  abbrev pub body_events : PlainNodePlan → Copies → (node n g : ℕ) → Standing → (owned : List ℕ) → List PlainOp → List (List ℤ) → List (List Entry) → List Stamped
  body_events p copies k n g st owned ops (v ∷ values) (es ∷ groups) =
      (stamped copies (issued p g) (flat_map (renewal_in_body core) owned)
      ++ list_stamped copies (λ i. issued p g + slice_index (times_of p) i) 0 n (inside_at st k (in_group_of g 0) v) ops es)
      ++ body_events p copies k n (suc g) st owned ops values groups
  body_events p copies k n g st owned ops _ _ = []

  -- an outer body, by the runs of its stages in each group: memories that it owns are made fresh in the first cycle of the
  -- first beat that uses their copies
  module _ (slots : List Slot) (runs : List (List (Run Stamped))) where
    abbrev pub stage_events : (group stage : ℕ) → List (Run Stamped) → List Stamped
    stage_events g s [] = []
    stage_events g s (r ∷ rest) = later (starts slots (took_at runs) g s) r.events ++ stage_events g (suc s) rest

    abbrev pub fresh_events : PlainNodePlan → PlainStages → Copies → (group : ℕ) → (owned : List ℕ) → List Stamped
    fresh_events p stages copies g [] = []
    fresh_events p stages copies g (m ∷ owned) =
        stamp copies (first_cycle slots (took_at runs) (g + first_slot p stages m)) (renews m) ∷ fresh_events p stages copies g owned

    abbrev pub group_events : PlainNodePlan → PlainStages → Copies → (owned : List ℕ) → (group : ℕ) → List (List (Run Stamped)) → List Stamped
    group_events p stages copies owned g [] = []
    group_events p stages copies owned g (row ∷ rows) =
        (fresh_events p stages (in_copies owned g copies) g owned ++ stage_events g 0 row) ++ group_events p stages copies owned (suc g) rows

  unfoldable mutual
    -- by the node's number, that of its first operation, and what stands around
    pub timed : PlainNode → (node n : ℕ) → Standing → Copies → History → Run Stamped
    timed (inner counters owned ops comb) k n st copies (inner_ran bs counts groups) =
        let p : PlainNodePlan = issued_by core ops (node_plan plan k) in
        record {
          took = inner_took (length groups) (interval_of p) (latency_of p);
          events = stamped copies 0 (bounds_moments n (inside_at st k before []) counters bs)
              ++ body_events p copies k (n + counters_size counters) 0 st owned ops (group_values (loops_of in_lanes counters bs)) groups;
        }
    timed (outer counters style owned stages) k n st copies (outer_ran bs counts groups) =
        let p : PlainNodePlan = node_plan plan k in
        let runs : List (List (Run Stamped)) = group_runs stages k (n + counters_size counters) 0 st owned copies (group_values (loops_of in_lanes counters bs)) groups in
        record {
          took = whole (slots_of p) (took_at runs) (length runs);
          events = stamped copies 0 (bounds_moments n (inside_at st k before []) counters bs)
              ++ group_events (slots_of p) runs p stages copies owned 0 runs;
        }
    timed (fsm start state test body next) k n st copies (fsm_ran first ts last) =
        inside_of (kept_run core copies n (inside_at st k before []) start first state (last_word first)
        ▸ turn_runs start state test body next k n 0 st copies ts last)
    timed (branch test first second) k n st copies (branch_ran es true h) =
        inside_of (list_run core copies n (inside_at st k (in_turn 0) []) test es
        ▸ timed first (suc k) (n + length test) (inside_at st k (in_turn 0) []) copies h)
    timed (branch test first second) k n st copies (branch_ran es false h) =
        inside_of (list_run core copies n (inside_at st k (in_turn 0) []) test es
        ▸ timed second (suc k + node_count first) (n + (length test + number_count first)) (inside_at st k (in_turn 0) []) copies h)
    timed (load r m spans) k n st copies (moved taken words) = record {
      took = transfer_took (delays k st.path) (length words);
      events = stamped copies 0 (spans_moments n st spans taken) ++ load_run (delays k st.path) core copies (n + spans_size spans) st r m (map part_of taken) words;
    }
    timed (store r m spans) k n st copies (moved taken words) = record {
      took = transfer_took (delays k st.path) (length words);
      events = stamped copies 0 (spans_moments n st spans taken) ++ store_run (delays k st.path) core copies (n + spans_size spans) st r m (map part_of taken) words;
    }
    timed node k n st copies h = record { took = 0; events = stamped copies 0 (moments core in_lanes node k n st h) }

    -- the runs of an outer's stages, group by group; one whose lanes are all masked takes 2 cycles
    pub group_runs : PlainStages → (node n g : ℕ) → Standing → (owned : List ℕ) → Copies → List (List ℤ) → Groups → List (List (Run Stamped))
    group_runs stages k n g st owned copies (v ∷ values) (more_group runs rest) =
        stage_runs stages k n 0 g (suc k) v st (in_copies owned g copies) runs ∷ group_runs stages k n (suc g) st owned copies values rest
    group_runs stages k n g st owned copies _ _ = []

    pub stage_runs : PlainStages → (node n s g j : ℕ) → List ℤ → Standing → Copies → Runs → List (Run Stamped)
    stage_runs (more_stage first last comb node rest) k n s g j v st copies (more_run h hs) =
        timed node j n (inside_at st k (in_group_of g s) v) copies h ∷ stage_runs rest k (n + number_count node) (suc s) g (j + node_count node) v st copies hs
    stage_runs (more_stage first last comb node rest) k n s g j v st copies (masked_run hs) =
        masked_stage ∷ stage_runs rest k (n + number_count node) (suc s) g (j + node_count node) v st copies hs
    stage_runs _ k n s g j v st copies _ = []

    -- the turns of an FSM from turn t on, and its last test
    pub turn_runs : (start : List PlainOp) → (state : ℕ) → (test : List PlainOp) → PlainNode → (next : List PlainOp) → (node n t : ℕ) → Standing → Copies → Turns → List Entry → Run Stamped
    turn_runs start state test body next k n t st copies no_turn last =
        list_run core copies (n + length start) (inside_at st k (in_turn t) []) test last
    turn_runs start state test body next k n t st copies (more_turn es h ns rest) last =
        list_run core copies (n + length start) (inside_at st k (in_turn t) []) test es
        ▸ (timed body (suc k) (n + (length start + length test)) (inside_at st k (in_turn t) []) copies h
        ▸ (kept_run core copies (n + (length start + (length test + number_count body))) (inside_at st k (in_turn t) []) next ns state (last_word ns)
        ▸ turn_runs start state test body next k n (suc t) st copies rest last))

  -- a run of the whole core, where each memory outside of loops has one copy
  abbrev pub core_timed : History → Run Stamped
  core_timed h = timed core.root 0 0 (record { path = []; counters = [] }) (λ m. 0) h
