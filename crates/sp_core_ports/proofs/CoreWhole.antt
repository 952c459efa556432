-- In a run of a core by a valid plan no port of a bank is used twice in one cycle, other than as one tap.
use Rattle.std.proofs.Common.{◌≡◌, ℕ, suc, ◌+◌, ◌<◌, ◌≤◌, Bool, true, false, cond, ℤ, List, [], ◌∷◌, ◌++◌, length, arith, refl, sym, ap, ◌∙◌, subst}
use Rattle.std.proofs.lemmas.Bool.{and_parts, eqb-true, eq-eqb, false≢true}
use Rattle.std.specs.Prelude.{◌==◌, ◌&&◌, ◌||◌, max}
use Rattle.sp_core.specs.declared.access.Meet.{Meet}
use Rattle.sp_core.specs.Around.{Around, nothing, within}
use Rattle.sp_core.specs.Events.{Standing, inside_at, before, in_group_of, in_turn, Moment, touches, slices, renews, keeps, bounds_moments, events_of, moments}
use Rattle.sp_core.specs.Forms.{PlainForms}
use Rattle.sp_core.specs.History.{Entry, last_word, History, Groups, Runs, Turns, inner_ran, outer_ran, fsm_ran, branch_ran, moved, no_group, more_group, no_run, masked_run, more_run, no_turn, more_turn}
use Rattle.sp_core.specs.Invariant.{owned_in}
use Rattle.sp_core.specs.Meeting.{are_at_once, is_in_stream, are_met, outers_in}
use Rattle.sp_core.specs.NodeRules.{with_state}
use Rattle.sp_core.specs.Numbering.{counters_size, node_count, number_count}
use Rattle.sp_core.specs.PlainCore.{PlainOp, PlainNode, PlainStages, inner, outer, fsm, branch, load, store, sparse, no_stage, more_stage, PlainCore}
use Rattle.sp_core.specs.Scope.{in_lanes, loops_of, group_values}
use Rattle.sp_plan.specs.Copies.{readers, duplicates}
use Rattle.sp_plan.specs.Named.{names_at}
use Rattle.sp_plan.specs.PlainPlan.{PlainPlan, mem_plan, node_plan}
use Rattle.sp_plan.specs.Validity.{stage_count, kind_rule}
use Rattle.sp_time.specs.Beats.{Slot, Run}
use Rattle.sp_time.specs.Lists.{Each, Pairs}
use Rattle.sp_machine.specs.Stamps.{Stamped, Copies, stamped, ◌▸◌, list_run, kept_run}
use Rattle.sp_machine.specs.Timeline.{timed, group_runs, stage_runs, turn_runs, group_events, in_copies, slots_of, core_timed}
use Rattle.sp_machine.specs.Told.{HasSlots, ArePlanned, AreKept}
use Rattle.sp_machine.specs.Transfers.{Delays}
use Rattle.sp_machine.proofs.InnerOrder.{pairs_met}
use Rattle.sp_machine.proofs.OuterOrder.{pairs_append}
use Rattle.sp_machine.proofs.Told.{told_node}
use Rattle.sp_machine.proofs.Within.{Before, RowWithin, TableWithin, before_row, before_kept, slot_count, node_within, groups_within}
use Rattle.sp_overlap.specs.Whole.{HasPlan}
use Rattle.sp_overlap.proofs.Compared.{pairs_split}
use Rattle.sp_overlap.proofs.Lanes.{all_below}
use Rattle.sp_overlap.proofs.Owners.{none_streams}
use Rattle.sp_overlap.proofs.Planned.{outer_holds, OuterPlan, outer_plan_of, node_planned, stages_planned, node_kept}
use Rattle.sp_ports.specs.Whole.{InnersShareNone, GroupsShareNone, StagesShareNone, TurnsShareNone}
use Rattle.sp_ports.proofs.Inners.{bounds_ports}
use Rattle.sp_core_ports.specs.UsedPorts.{HasDuplicate, UseNoPortTwice}
use Rattle.sp_core_ports.specs.UsedReaders.{readers_of, over_at}
use Rattle.sp_core_ports.proofs.UsedAtPort.{IsFree, none_twice, free_pairs, free_two}
use Rattle.sp_core_ports.proofs.UsedCounted.{readers_are_counted}
use Rattle.sp_core_ports.proofs.UsedGroups.{twice_later, parts_twice, outers_use_none}
use Rattle.sp_core_ports.proofs.UsedMoving.{stamped_free, transfers_use_none}
use Rattle.sp_core_ports.proofs.UsedRising.{rising_pairs, row_rises, kept_rises}
use Rattle.sp_core_ports.specs.CoreLaws.{ReadsHaveDuplicates, CoresUseNoPortTwice}
use Rattle.sp_core_ports.specs.CoreServed.{HasReader, IsServed, HasDuplicates}
use Rattle.sp_core_ports.proofs.CoreKept.{any_at_once, Keeps, AllKeep, outer_keeps, first_keeps, rest_keeps, body_keeps, left_keeps, right_keeps, Placed, placed_at, same_group, same_turn, once_values, outer_right}
use Rattle.sp_core_ports.proofs.CoreMeeting.{Met, TableMet, met_moved, met_then, met_events, table_met}
use Rattle.sp_core_ports.proofs.CoreServing.{table_at, node_served, groups_served}
use Rattle.sp_core_ports.proofs.CoreStages.{over_some, stages_take_turns}
use Rattle.sp_core_ports.proofs.CoreWriting.{on_chip}

module _ (core : PlainCore) (forms : PlainForms) (meets : List Meet) (plan : PlainPlan) (delays : Delays) (no_stream : (k : ℕ) → is_in_stream core k ≡ false) (enough : HasDuplicates core plan) where
  abbrev Twice : Stamped → Stamped → Type 0
  Twice s t = UseNoPortTwice core plan forms s t

  abbrev RowTwice : List (Run Stamped) → Type 0
  RowTwice row = Each (λ r. Pairs Twice r.events) row

  -- runs that are within their time, and use no port twice
  row_both : (row : List (Run Stamped)) → RowWithin row → RowTwice row → Each (λ r. Before r.took r.events × Pairs Twice r.events) row
  row_both [] a b = tt
  row_both (r ∷ row) a b = ((a.0, b.0), row_both row a.1 b.1)

  table_both : (m n : ℕ) → n ≡ m → (runs : List (List (Run Stamped))) → TableWithin m runs → Each RowTwice runs → Each (λ row. (length row ≤ n) × Each (λ r. Before r.took r.events × Pairs Twice r.events) row) runs
  table_both m n e [] a b = tt
  table_both m n e (row ∷ rows) a b = ((let q : length row ≤ m = a.0.0 in omega arith, row_both row a.0.1 b.0), table_both m n e rows a.1 b.1)

  -- bounds use no port
  after_bounds : (copies : Copies) (ms : List Moment) (rest : List Stamped) → Each (IsFree core plan) (stamped copies 0 ms) → Pairs Twice rest → Pairs Twice (stamped copies 0 ms ++ rest)
  after_bounds copies ms rest f p = pairs_append Twice (stamped copies 0 ms) rest (free_pairs core plan forms (stamped copies 0 ms) f) p (free_two core plan forms (stamped copies 0 ms) rest f)

  listed : (copies : Copies) (n : ℕ) (st : Standing) (ops : List PlainOp) (es : List Entry) → Pairs Twice (list_run core copies n st ops es).events
  listed copies n st ops es = rising_pairs core plan forms 1 (list_run core copies n st ops es).events (row_rises core plan copies n st ops es)

  kept : (copies : Copies) (n : ℕ) (st : Standing) (ops : List PlainOp) (es : List Entry) (state word : ℕ) → Pairs Twice (kept_run core copies n st ops es state word).events
  kept copies n st ops es state word = rising_pairs core plan forms 1 (kept_run core copies n st ops es state word).events (kept_rises core plan copies n st ops es state word)

  joined : (a b : Run Stamped) → Before a.took a.events → Pairs Twice a.events → Pairs Twice b.events → Pairs Twice (a ▸ b).events
  joined a b w p q = parts_twice core plan delays forms a b w p q

  abbrev Kept : PlainNode → (k n : ℕ) → Around → List ℕ → Type 0
  Kept node k n around earlier = Keeps core forms meets plan delays no_stream node k n around earlier

  abbrev AllKept : PlainStages → (k n : ℕ) → Around → List ℕ → Type 0
  AllKept stages k n around earlier = AllKeep core forms meets plan delays no_stream stages k n around earlier

  abbrev PlacedAt : Standing → Type 0
  PlacedAt st = Placed core forms meets plan delays no_stream st

  abbrev AllMet : List Stamped → Type 0
  AllMet es = Pairs (Met core meets plan delays) es

  mutual
    unfolding timed group_runs stage_runs turn_runs moments

    pub node_twice : (node : PlainNode) (k n : ℕ) (st : Standing) (copies : Copies) (h : History) (around : Around) (earlier : List ℕ) → Kept node k n around earlier → PlacedAt st → AllMet (timed core plan delays node k n st copies h).events
        → InnersShareNone core plan delays forms node k n st copies h → Pairs Twice (timed core plan delays node k n st copies h).events
    node_twice (inner counters owned ops comb) k n st copies (inner_ran bs counts groups) around earlier w placed met share = none_twice core plan forms _ share
    node_twice (outer counters style owned stages) k n st copies (outer_ran bs counts groups) around earlier w placed met share =
        let values = group_values (loops_of in_lanes counters bs) in
        let first : ℕ = n + counters_size counters in
        let runs = group_runs core plan delays stages k first 0 st owned copies values groups in
        let slots : List Slot = slots_of (node_plan plan k) in
        let bounds = bounds_moments n (inside_at st k before []) counters bs in
        let body : List Stamped = group_events core plan delays slots runs (node_plan plan k) stages copies owned 0 runs in
        let body_met : AllMet body = (pairs_split (Met core meets plan delays) (stamped copies 0 bounds) body met).1 in
        let p : OuterPlan (node_plan plan k) (stage_count stages) = outer_plan_of (node_plan plan k) counters style owned stages w.timed.0 (outer_holds (kind_rule core forms meets plan) k n counters style owned stages w.timed.0 w.kinds).0 in
        let below : AllKept stages (suc k) first (within around counters owned) (earlier ++ owned) = outer_keeps core forms meets plan delays no_stream counters style owned stages k n around earlier w in
        let planned : ArePlanned plan (suc k) stages = stages_planned core forms meets plan stages (suc k) first below.timed below.kinds in
        let kept_times : AreKept plan (suc k) stages = node_kept core forms meets plan (outer counters style owned stages) k n w.timed w.kinds w.times in
        after_bounds copies bounds body (stamped_free core plan copies 0 bounds (bounds_ports core around n (inside_at st k before []) counters bs (and_parts _ _ (and_parts _ _ (and_parts _ _ w.right.0).0).0).1))
        (outers_use_none core plan delays forms slots runs (node_plan plan k) stages copies owned
        (table_both (stage_count stages) (length slots) (counted p) runs (groups_within core plan delays stages k first 0 st owned copies values groups planned kept_times)
        (groups_twice stages k first 0 st owned copies values groups (within around counters owned) (earlier ++ owned) below placed
        (table_met core meets plan delays slots runs (node_plan plan k) stages copies owned 0 runs body_met) share))
        (stages_take_turns core plan delays meets k first st counters style owned stages p.slots p.chains (outer_right core forms meets plan delays no_stream counters style owned stages k n st around earlier placed w p) planned
        enough (λ e. w.at_once k (this (are_at_once counters style) e)) copies values groups (once_values core forms meets plan delays no_stream counters bs) (met_events core meets plan delays body body_met)
        (λ g s. table_at core plan delays stages first runs (groups_served core plan delays stages k first 0 st owned copies values groups (within around counters owned) (earlier ++ owned) below.right below.timed below.serve) g s)))
      where
        counted : OuterPlan (node_plan plan k) (stage_count stages) → length (slots_of (node_plan plan k)) ≡ stage_count stages
        counted p = slot_count (node_plan plan k) (stage_count stages) (subst (λ q. HasSlots q (stage_count stages)) (sym p.is) (p.many_slots, p.many_chains))

        this : (b : Bool) → b ≡ true → (((k == k) && b) || any_at_once k (outers_in (suc k) stages)) ≡ true
        this b e = ap (λ t. (t && b) || any_at_once k (outers_in (suc k) stages)) (eq-eqb k k refl) ∙ ap (λ t. t || any_at_once k (outers_in (suc k) stages)) e
    node_twice (fsm start state test body next) k n st copies (fsm_ran first ts last) around earlier w placed met share =
        let begin : Run Stamped = kept_run core copies n (inside_at st k before []) start first state (last_word first) in
        let rest : Run Stamped = turn_runs core plan delays start state test body next k n 0 st copies ts last in
        twice_later core plan delays forms 1 (begin ▸ rest).events
        (joined begin rest (before_kept core copies n (inside_at st k before []) start first state (last_word first)) (kept copies n (inside_at st k before []) start first state (last_word first))
        (turns_twice start state test body next k n 0 st copies ts last (with_state core around state) (earlier ++ state ∷ []) (body_keeps core forms meets plan delays no_stream start state test body next k n around earlier w) placed
        (met_then core meets plan delays begin rest (met_moved core meets plan delays 1 (begin ▸ rest).events met)).1 share))
    node_twice (branch test first second) k n st copies (branch_ran es true h) around earlier w placed met share =
        let asked : Run Stamped = list_run core copies n (inside_at st k (in_turn 0) []) test es in
        let taken : Run Stamped = timed core plan delays first (suc k) (n + length test) (inside_at st k (in_turn 0) []) copies h in
        twice_later core plan delays forms 1 (asked ▸ taken).events
        (joined asked taken (before_row core copies n (inside_at st k (in_turn 0) []) test es) (listed copies n (inside_at st k (in_turn 0) []) test es)
        (node_twice first (suc k) (n + length test) (inside_at st k (in_turn 0) []) copies h around earlier (left_keeps core forms meets plan delays no_stream test first second k n around earlier w)
        (placed_at core forms meets plan delays no_stream st k (in_turn 0) [] placed (same_turn core forms meets plan delays no_stream 0)) (met_then core meets plan delays asked taken (met_moved core meets plan delays 1 (asked ▸ taken).events met)).1 share))
    node_twice (branch test first second) k n st copies (branch_ran es false h) around earlier w placed met share =
        let asked : Run Stamped = list_run core copies n (inside_at st k (in_turn 0) []) test es in
        let taken : Run Stamped = timed core plan delays second (suc k + node_count first) (n + (length test + number_count first)) (inside_at st k (in_turn 0) []) copies h in
        twice_later core plan delays forms 1 (asked ▸ taken).events
        (joined asked taken (before_row core copies n (inside_at st k (in_turn 0) []) test es) (listed copies n (inside_at st k (in_turn 0) []) test es)
        (node_twice second (suc k + node_count first) (n + (length test + number_count first)) (inside_at st k (in_turn 0) []) copies h around (earlier ++ owned_in first) (right_keeps core forms meets plan delays no_stream test first second k n around earlier w)
        (placed_at core forms meets plan delays no_stream st k (in_turn 0) [] placed (same_turn core forms meets plan delays no_stream 0)) (met_then core meets plan delays asked taken (met_moved core meets plan delays 1 (asked ▸ taken).events met)).1 share))
    node_twice (load r m spans) k n st copies (moved taken words) around earlier w placed met share =
        (transfers_use_none core plan delays forms around r m spans k n st copies taken words (and_parts _ _ (and_parts _ _ (and_parts _ _ w.right).0).0).1).0
    node_twice (store r m spans) k n st copies (moved taken words) around earlier w placed met share =
        (transfers_use_none core plan delays forms around r m spans k n st copies taken words (and_parts _ _ (and_parts _ _ (and_parts _ _ w.right).0).0).1).1
    node_twice (sparse kind r m places spans count par) k n st copies h around earlier w placed met share = absurd w.timed
    node_twice node k n st copies h around earlier w placed met share = tt

    groups_twice : (stages : PlainStages) (k n g : ℕ) (st : Standing) (owned : List ℕ) (copies : Copies) (values : List (List ℤ)) (groups : Groups) (around : Around) (earlier : List ℕ) → AllKept stages (suc k) n around earlier → PlacedAt st
        → TableMet core meets plan delays (group_runs core plan delays stages k n g st owned copies values groups) → GroupsShareNone core plan delays forms stages k n g st owned copies values groups
        → Each RowTwice (group_runs core plan delays stages k n g st owned copies values groups)
    groups_twice stages k n g st owned copies (v ∷ values) (more_group rs rest) around earlier w placed met share = (
      stages_twice stages k n 0 g (suc k) v st (in_copies core plan delays owned g copies) rs around earlier w placed met.0 share.0,
      groups_twice stages k n (suc g) st owned copies values rest around earlier w placed met.1 share.1,
    )
    groups_twice stages k n g st owned copies [] groups around earlier w placed met share = tt
    groups_twice stages k n g st owned copies (v ∷ values) no_group around earlier w placed met share = tt

    stages_twice : (stages : PlainStages) (k n s g j : ℕ) (v : List ℤ) (st : Standing) (copies : Copies) (rs : Runs) (around : Around) (earlier : List ℕ) → AllKept stages j n around earlier → PlacedAt st
        → Each (λ (r : Run Stamped). AllMet r.events) (stage_runs core plan delays stages k n s g j v st copies rs) → StagesShareNone core plan delays forms stages k n s g j v st copies rs
        → RowTwice (stage_runs core plan delays stages k n s g j v st copies rs)
    stages_twice (more_stage first last comb node rest) k n s g j v st copies (more_run h rs) around earlier w placed met share = (
      node_twice node j n (inside_at st k (in_group_of g s) v) copies h around earlier (first_keeps core forms meets plan delays no_stream first last comb node rest j n around earlier w)
          (placed_at core forms meets plan delays no_stream st k (in_group_of g s) v placed (same_group core forms meets plan delays no_stream g s)) met.0 share.0,
      stages_twice rest k (n + number_count node) (suc s) g (j + node_count node) v st copies rs around (earlier ++ owned_in node) (rest_keeps core forms meets plan delays no_stream first last comb node rest j n around earlier w) placed met.1 share.1,
    )
    stages_twice (more_stage first last comb node rest) k n s g j v st copies (masked_run rs) around earlier w placed met share =
        (tt, stages_twice rest k (n + number_count node) (suc s) g (j + node_count node) v st copies rs around (earlier ++ owned_in node) (rest_keeps core forms meets plan delays no_stream first last comb node rest j n around earlier w) placed met.1 share)
    stages_twice (more_stage first last comb node rest) k n s g j v st copies no_run around earlier w placed met share = tt
    stages_twice no_stage k n s g j v st copies rs around earlier w placed met share = tt

    turns_twice : (start : List PlainOp) (state : ℕ) (test : List PlainOp) (body : PlainNode) (next : List PlainOp) (k n t : ℕ) (st : Standing) (copies : Copies) (ts : Turns) (last : List Entry) (around : Around) (earlier : List ℕ)
        → Kept body (suc k) (n + (length start + length test)) around earlier → PlacedAt st
        → AllMet (turn_runs core plan delays start state test body next k n t st copies ts last).events → TurnsShareNone core plan delays forms start test body next k n t st copies ts
        → Pairs Twice (turn_runs core plan delays start state test body next k n t st copies ts last).events
    turns_twice start state test body next k n t st copies no_turn last around earlier w placed met share = listed copies (n + length start) (inside_at st k (in_turn t) []) test last
    turns_twice start state test body next k n t st copies (more_turn es h ns rest) last around earlier w placed met share =
        let at : Standing = inside_at st k (in_turn t) [] in
        let tested : Run Stamped = list_run core copies (n + length start) at test es in
        let body_run : Run Stamped = timed core plan delays body (suc k) (n + (length start + length test)) at copies h in
        let next_run : Run Stamped = kept_run core copies (n + (length start + (length test + number_count body))) at next ns state (last_word ns) in
        let others : Run Stamped = turn_runs core plan delays start state test body next k n (suc t) st copies rest last in
        let one = met_then core meets plan delays body_run (next_run ▸ others) (met_then core meets plan delays tested (body_run ▸ next_run ▸ others) met).1 in
        joined tested (body_run ▸ next_run ▸ others) (before_row core copies (n + length start) at test es) (listed copies (n + length start) at test es)
        (joined body_run (next_run ▸ others)
        (node_within core plan delays body (suc k) (n + (length start + length test)) at copies h (node_planned core forms meets plan body (suc k) (n + (length start + length test)) w.timed w.kinds) (node_kept core forms meets plan body (suc k) (n + (length start + length test)) w.timed w.kinds w.times))
        (node_twice body (suc k) (n + (length start + length test)) at copies h around earlier w (placed_at core forms meets plan delays no_stream st k (in_turn t) [] placed (same_turn core forms meets plan delays no_stream t)) one.0 share.0)
        (joined next_run others (before_kept core copies (n + (length start + (length test + number_count body))) at next ns state (last_word ns)) (kept copies (n + (length start + (length test + number_count body))) at next ns state (last_word ns))
        (turns_twice start state test body next k n (suc t) st copies rest last around earlier w placed (met_then core meets plan delays next_run others one.1).1 share.1)))

module _ (core : PlainCore) (plan : PlainPlan) (delays : Delays) (forms : PlainForms) (meets : List Meet) (w : HasPlan core forms meets plan) where
  start : Standing
  start = record { path = []; counters = [] }

  no_stream : (k : ℕ) → is_in_stream core k ≡ false
  no_stream k = none_streams core w.is_timed k

  enough : HasDuplicates core plan
  enough m banked =
      let given : (mem_plan plan m).duplicates ≡ duplicates core m = eqb-true _ _ (all_below _ (length core.mems) m w.valid.duplicated (on_chip core m banked)) in
      let all : duplicates core m ≡ max 1 (readers core m core.root) = ap (λ b. cond b (max 1 (readers core m core.root)) 1) banked in
      let count : length (readers_of core m) ≡ readers core m core.root = readers_are_counted core m 0 core.root in
      omega arith

  at_root : Keeps core forms meets plan delays no_stream core.root 0 0 nothing []
  at_root = record {
    right = w.is_core.nodes;
    scoped = λ m e. absurd (false≢true e);
    timed = w.is_timed;
    by_lane = w.by_lane;
    kinds = w.valid.kinds;
    times = w.valid.times;
    slots = w.valid.slots;
    copied = w.valid.copied;
    named = λ i l. ap (names_at core) (let e : 0 + i ≡ i = omega arith in e);
    own = λ j m l u. refl;
    at_once = λ j e. e;
    serves = λ m r i. i;
  }

  -- a read that has a reader has a duplicate
  moment_has : (u : ℕ) (m : Moment) → IsServed core u m → HasDuplicate core plan m
  moment_has u (touches e) h = λ banked c.
      let r : HasReader core u e = h banked c in
      let some : over_at e.number (readers_of core e.mem) < length (readers_of core e.mem) = over_some e.number r.reader (readers_of core e.mem) r.is_one r.not_over in
      let all : length (readers_of core e.mem) ≤ (mem_plan plan e.mem).duplicates = enough e.mem banked in
      omega arith
  moment_has u (slices z) h = tt
  moment_has u (renews m) h = tt
  moment_has u (keeps m v) h = tt

  all_have : (u : ℕ) (es : List Stamped) → Each (λ (e : Stamped). IsServed core u e.moment) es → Each (λ (e : Stamped). HasDuplicate core plan e.moment) es
  all_have u [] h = tt
  all_have u (e ∷ es) h = (moment_has u e.moment h.0, all_have u es h.1)

pub reads_have_duplicates : (core : PlainCore) (plan : PlainPlan) (delays : Delays) → ReadsHaveDuplicates core plan delays
reads_have_duplicates core plan delays forms meets w h =
    all_have core plan delays forms meets w (0 + number_count core.root) (core_timed core plan delays h).events
    (node_served core plan delays core.root 0 0 (record { path = []; counters = [] }) (λ m. 0) h nothing [] w.is_core.nodes w.is_timed (λ m r i. i))

pub cores_use_no_port_twice : (core : PlainCore) (plan : PlainPlan) (delays : Delays) → CoresUseNoPortTwice core plan delays
cores_use_no_port_twice core plan delays forms meets w h met share =
    node_twice core forms meets plan delays (no_stream core plan delays forms meets w) (enough core plan delays forms meets w) core.root 0 0 (record { path = []; counters = [] }) (λ m. 0) h nothing []
    (at_root core plan delays forms meets w) tt
    (pairs_met core meets (core_timed core plan delays h).events
    (subst (λ ms. are_met core meets (events_of ms) ≡ true) (sym (told_node core plan delays core.root 0 0 (record { path = []; counters = [] }) (λ m. 0) h)) met))
    share
