-- What happens in a run of a tree comes in order.
use Rattle.std.proofs.Common.{◌≡◌, ℕ, suc, ◌+◌, ◌≤◌, true, false, ℤ, List, [], ◌∷◌, map, length, arith}
use Rattle.sp_bank.specs.Banking.{Banking}
use Rattle.std.specs.Prelude.{Option}
use Rattle.sp_core.specs.declared.access.Meet.{Meet}
use Rattle.sp_core.specs.Events.{Standing, inside_at, before, in_group_of, in_turn, bounds_moments, spans_moments, events_of, moments}
use Rattle.sp_core.specs.History.{Entry, last_word, History, Groups, Runs, Turns, inner_ran, outer_ran, fsm_ran, branch_ran, moved, no_group, more_group, no_run, masked_run, more_run, no_turn, more_turn}
use Rattle.sp_core.specs.Meeting.{are_met}
use Rattle.sp_core.specs.Numbering.{counters_size, spans_size, node_count, number_count}
use Rattle.sp_core.specs.PlainCore.{PlainOp, PlainNode, PlainStages, inner, outer, fsm, branch, load, store, sparse, no_stage, more_stage, PlainCore}
use Rattle.sp_core.specs.Scope.{in_lanes, loops_of, group_values}
use Rattle.sp_core.specs.Transfers.{part_of}
use Rattle.sp_plan.specs.PlainPlan.{PlainNodePlan, inner_plan, outer_plan, other_plan, PlainPlan, node_plan}
use Rattle.sp_plan.specs.Validity.{stage_count}
use Rattle.sp_time.specs.Beats.{Slot, Run}
use Rattle.sp_time.specs.Lists.{Each, Pairs}
use Rattle.sp_machine.specs.InOrder.{AreInOrder, IsPlaced}
use Rattle.sp_machine.specs.Laws.{told}
use Rattle.sp_machine.specs.Sound.{AreTimed, IsSound, AreSound, RunsSound, TurnsSound}
use Rattle.sp_machine.specs.Stamps.{Stamped, Copies, stamped, ◌▸◌, list_run, kept_run}
use Rattle.sp_machine.specs.Timeline.{timed, times_of, issued_by, body_events, group_runs, stage_runs, turn_runs, in_copies, slots_of}
use Rattle.sp_machine.specs.Told.{IsPlanned, ArePlanned, IsKept, AreKept}
use Rattle.sp_machine.specs.Transfers.{Delays}
use Rattle.sp_machine.proofs.AtOnce.{by_pace, body_idle, idle_in_order}
use Rattle.sp_machine.proofs.InnerOrder.{bodies_in_order}
use Rattle.sp_machine.proofs.OuterOrder.{pairs_append, outers_in_order}
use Rattle.sp_machine.proofs.PartsOrder.{then_in_order, inside_in_order, looks_in_order, looks_first, row_in_order, kept_in_order, load_in_order, store_in_order}
use Rattle.sp_machine.proofs.Within.{Before, RowWithin, TableWithin, before_row, before_kept, slot_count, node_within, groups_within}

module _ (core : PlainCore) (plan : PlainPlan) (delays : Delays) (schemes : List (Option Banking)) (meets : List Meet) where
  abbrev RowOrder : List (Run Stamped) → Type 0
  RowOrder row = Each (λ r. Pairs (AreInOrder core) r.events) row

  abbrev TableOrder : List (List (Run Stamped)) → Type 0
  TableOrder runs = Each RowOrder runs

  -- runs that are within their time, and in order
  row_both : (row : List (Run Stamped)) → RowWithin row → RowOrder row → Each (λ r. Before r.took r.events × Pairs (AreInOrder core) r.events) row
  row_both [] a b = tt
  row_both (r ∷ row) a b = ((a.0, b.0), row_both row a.1 b.1)

  table_both : (m n : ℕ) → n ≡ m → (runs : List (List (Run Stamped))) → TableWithin m runs → TableOrder runs → Each (λ row. (length row ≤ n) × Each (λ r. Before r.took r.events × Pairs (AreInOrder core) r.events) row) runs
  table_both m n e [] a b = tt
  table_both m n e (row ∷ rows) a b = ((let q : length row ≤ m = a.0.0 in omega arith, row_both row a.0.1 b.0), table_both m n e rows a.1 b.1)

  inner_in_order : (p : PlainNodePlan) (k n : ℕ) (st : Standing) (copies : Copies) (owned : List ℕ) (ops : List PlainOp) (values : List (List ℤ)) (groups : List (List Entry)) → IsPlaced core k st → AreTimed core plan delays schemes meets n ops p
      → are_met core meets (events_of (told (body_events core plan delays p copies k n 0 st owned ops values groups))) ≡ true → Pairs (AreInOrder core) (body_events core plan delays p copies k n 0 st owned ops values groups)
  inner_in_order (inner_plan times ii latency serial) k n st copies owned ops values groups placed timed met = bodies_in_order core plan delays schemes meets k n st copies owned ops times ii latency serial values groups placed timed met
  inner_in_order (outer_plan slots chains) k n st copies owned ops values groups placed timed met = absurd timed
  inner_in_order other_plan k n st copies owned ops values groups placed timed met = absurd timed

  -- also where it does all of its groups at once: then it touches nothing
  issued_in_order : (p : PlainNodePlan) (k n : ℕ) (st : Standing) (copies : Copies) (owned : List ℕ) (ops : List PlainOp) (values : List (List ℤ)) (groups : List (List Entry)) → IsPlaced core k st → AreTimed core plan delays schemes meets n ops p
      → are_met core meets (events_of (told (body_events core plan delays (issued_by core ops p) copies k n 0 st owned ops values groups))) ≡ true → Pairs (AreInOrder core) (body_events core plan delays (issued_by core ops p) copies k n 0 st owned ops values groups)
  issued_in_order p k n st copies owned ops values groups placed timed =
      by_pace core ops p (λ r. are_met core meets (events_of (told (body_events core plan delays r copies k n 0 st owned ops values groups))) ≡ true → Pairs (AreInOrder core) (body_events core plan delays r copies k n 0 st owned ops values groups))
      (λ z w met. idle_in_order core _ (body_idle core plan delays (inner_plan (times_of p) 0 0 false) copies k n 0 st owned ops values groups w))
      (inner_in_order p k n st copies owned ops values groups placed timed)

  mutual
    unfolding timed group_runs stage_runs turn_runs moments

    pub node_in_order : (node : PlainNode) (k n : ℕ) (st : Standing) (copies : Copies) (h : History) → IsPlanned plan k node → IsKept plan k node → IsSound core plan delays schemes meets node k n st copies h
        → Pairs (AreInOrder core) (timed core plan delays node k n st copies h).events
    node_in_order (inner counters owned ops comb) k n st copies (inner_ran bs counts groups) p q w =
        let body : List Stamped = body_events core plan delays (issued_by core ops (node_plan plan k)) copies k (n + counters_size counters) 0 st owned ops (group_values (loops_of in_lanes counters bs)) groups in
        pairs_append (AreInOrder core) (stamped copies 0 (bounds_moments n (inside_at st k before []) counters bs)) body (looks_in_order core copies 0 _ w.0)
        (issued_in_order (node_plan plan k) k (n + counters_size counters) st copies owned ops (group_values (loops_of in_lanes counters bs)) groups w.1 w.2 w.3) (looks_first core copies _ w.0 body)
    node_in_order (outer counters style owned stages) k n st copies (outer_ran bs counts groups) p q w =
        let runs = group_runs core plan delays stages k (n + counters_size counters) 0 st owned copies (group_values (loops_of in_lanes counters bs)) groups in
        let slots : List Slot = slots_of (node_plan plan k) in
        pairs_append (AreInOrder core) (stamped copies 0 (bounds_moments n (inside_at st k before []) counters bs)) _ (looks_in_order core copies 0 _ w.0)
        (outers_in_order core plan delays slots runs (node_plan plan k) stages copies owned
        (table_both (stage_count stages) (length slots) (slot_count (node_plan plan k) (stage_count stages) p.1) runs (groups_within core plan delays stages k (n + counters_size counters) 0 st owned copies (group_values (loops_of in_lanes counters bs)) groups p.2 q)
        (groups_in_order stages k (n + counters_size counters) 0 st owned copies (group_values (loops_of in_lanes counters bs)) groups p.2 q w.2)) w.1)
        (looks_first core copies _ w.0 _)
    node_in_order (fsm start state test body next) k n st copies (fsm_ran first ts last) p q w =
        let begin : Run Stamped = kept_run core copies n (inside_at st k before []) start first state (last_word first) in
        let rest : Run Stamped = turn_runs core plan delays start state test body next k n 0 st copies ts last in
        inside_in_order core (begin ▸ rest) (then_in_order core begin rest (before_kept core copies n (inside_at st k before []) start first state (last_word first))
        (kept_in_order core copies n (inside_at st k before []) start first state (last_word first)) (turns_in_order start state test body next k n 0 st copies ts last p q w))
    node_in_order (branch test first second) k n st copies (branch_ran es true h) p q w =
        let asked : Run Stamped = list_run core copies n (inside_at st k (in_turn 0) []) test es in
        let taken : Run Stamped = timed core plan delays first (suc k) (n + length test) (inside_at st k (in_turn 0) []) copies h in
        inside_in_order core (asked ▸ taken) (then_in_order core asked taken (before_row core copies n (inside_at st k (in_turn 0) []) test es) (row_in_order core copies n (inside_at st k (in_turn 0) []) test es)
        (node_in_order first (suc k) (n + length test) (inside_at st k (in_turn 0) []) copies h p.0 q.0 w))
    node_in_order (branch test first second) k n st copies (branch_ran es false h) p q w =
        let asked : Run Stamped = list_run core copies n (inside_at st k (in_turn 0) []) test es in
        let taken : Run Stamped = timed core plan delays second (suc k + node_count first) (n + (length test + number_count first)) (inside_at st k (in_turn 0) []) copies h in
        inside_in_order core (asked ▸ taken) (then_in_order core asked taken (before_row core copies n (inside_at st k (in_turn 0) []) test es) (row_in_order core copies n (inside_at st k (in_turn 0) []) test es)
        (node_in_order second (suc k + node_count first) (n + (length test + number_count first)) (inside_at st k (in_turn 0) []) copies h p.1 q.1 w))
    node_in_order (load r m spans) k n st copies (moved taken words) p q w =
        pairs_append (AreInOrder core) (stamped copies 0 (spans_moments n st spans taken)) _ (looks_in_order core copies 0 _ w.0)
        (load_in_order core (delays k st.path) copies (n + spans_size spans) st r m w.1 (map part_of taken) words) (looks_first core copies _ w.0 _)
    node_in_order (store r m spans) k n st copies (moved taken words) p q w =
        pairs_append (AreInOrder core) (stamped copies 0 (spans_moments n st spans taken)) _ (looks_in_order core copies 0 _ w.0)
        (store_in_order core (delays k st.path) copies (n + spans_size spans) st r m w.1 (map part_of taken) words) (looks_first core copies _ w.0 _)
    node_in_order (sparse kind r m places spans count par) k n st copies h p q w = absurd p
    node_in_order node k n st copies h p q w = tt

    groups_in_order : (stages : PlainStages) (k n g : ℕ) (st : Standing) (owned : List ℕ) (copies : Copies) (values : List (List ℤ)) (groups : Groups) → ArePlanned plan (suc k) stages → AreKept plan (suc k) stages → AreSound core plan delays schemes meets stages k n g st owned copies values groups
        → TableOrder (group_runs core plan delays stages k n g st owned copies values groups)
    groups_in_order stages k n g st owned copies (v ∷ values) (more_group rs rest) p q w =
        (stages_in_order stages k n 0 g (suc k) v st (in_copies core plan delays owned g copies) rs p q w.0, groups_in_order stages k n (suc g) st owned copies values rest p q w.1)
    groups_in_order stages k n g st owned copies [] groups p q w = tt
    groups_in_order stages k n g st owned copies (v ∷ values) no_group p q w = tt

    stages_in_order : (stages : PlainStages) (k n s g j : ℕ) (v : List ℤ) (st : Standing) (copies : Copies) (rs : Runs) → ArePlanned plan j stages → AreKept plan j stages → RunsSound core plan delays schemes meets stages k n s g j v st copies rs
        → RowOrder (stage_runs core plan delays stages k n s g j v st copies rs)
    stages_in_order (more_stage first last comb node rest) k n s g j v st copies (more_run h rs) p q w =
        (node_in_order node j n (inside_at st k (in_group_of g s) v) copies h p.0 q.0 w.0, stages_in_order rest k (n + number_count node) (suc s) g (j + node_count node) v st copies rs p.1 q.1 w.1)
    stages_in_order (more_stage first last comb node rest) k n s g j v st copies (masked_run rs) p q w =
        (tt, stages_in_order rest k (n + number_count node) (suc s) g (j + node_count node) v st copies rs p.1 q.1 w)
    stages_in_order (more_stage first last comb node rest) k n s g j v st copies no_run p q w = tt
    stages_in_order no_stage k n s g j v st copies rs p q w = tt

    turns_in_order : (start : List PlainOp) (state : ℕ) (test : List PlainOp) (body : PlainNode) (next : List PlainOp) (k n t : ℕ) (st : Standing) (copies : Copies) (ts : Turns) (last : List Entry) → IsPlanned plan (suc k) body → IsKept plan (suc k) body → TurnsSound core plan delays schemes meets start test body next k n t st copies ts
        → Pairs (AreInOrder core) (turn_runs core plan delays start state test body next k n t st copies ts last).events
    turns_in_order start state test body next k n t st copies no_turn last p q w = row_in_order core copies (n + length start) (inside_at st k (in_turn t) []) test last
    turns_in_order start state test body next k n t st copies (more_turn es h ns rest) last p q w =
        let at : Standing = inside_at st k (in_turn t) [] in
        let tested : Run Stamped = list_run core copies (n + length start) at test es in
        let body_run : Run Stamped = timed core plan delays body (suc k) (n + (length start + length test)) at copies h in
        let next_run : Run Stamped = kept_run core copies (n + (length start + (length test + number_count body))) at next ns state (last_word ns) in
        let others : Run Stamped = turn_runs core plan delays start state test body next k n (suc t) st copies rest last in
        then_in_order core tested (body_run ▸ next_run ▸ others) (before_row core copies (n + length start) at test es) (row_in_order core copies (n + length start) at test es)
        (then_in_order core body_run (next_run ▸ others) (node_within core plan delays body (suc k) (n + (length start + length test)) at copies h p q)
        (node_in_order body (suc k) (n + (length start + length test)) at copies h p q w.0)
        (then_in_order core next_run others (before_kept core copies (n + (length start + (length test + number_count body))) at next ns state (last_word ns)) (kept_in_order core copies (n + (length start + (length test + number_count body))) at next ns state (last_word ns))
        (turns_in_order start state test body next k n (suc t) st copies rest last p q w.1)))
