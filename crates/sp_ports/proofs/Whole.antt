-- In a run of a core by a valid plan each run of an inner body shares no port of a bank.
use Rattle.std.proofs.Common.{◌≡◌, ℕ, suc, ◌+◌, ◌*◌, ◌<◌, ◌≤◌, Bool, true, false, ℤ, List, [], ◌∷◌, ◌++◌, map, length, arith, refl, sym, subst, ap, ◌∙◌}
use Rattle.std.proofs.lemmas.Bool.{and_parts, true≢false, false≢true}
use Rattle.std.specs.Prelude.{◌&&◌, Option, Some, None}
use Rattle.sp_core.specs.declared.access.Meet.{Meet}
use Rattle.sp_core.specs.Around.{Around, nothing, within}
use Rattle.sp_core.specs.Events.{At, Standing, inside_at, before, in_group_of, in_turn, Moment, bounds_moments, core_moments, events_of, moments}
use Rattle.sp_core.specs.Forms.{PlainForms}
use Rattle.sp_core.specs.History.{Entry, last_word, Bounds, History, Groups, Runs, Turns, inner_ran, outer_ran, fsm_ran, branch_ran, moved as went_through, picked, no_group, more_group, no_run, masked_run, more_run, no_turn, more_turn}
use Rattle.sp_core.specs.Invariant.{owned_in, IsRight, AreRight}
use Rattle.sp_core.specs.Meeting.{are_met}
use Rattle.sp_core.specs.NodeRules.{with_state}
use Rattle.sp_core.specs.Numbered.{list_numbers, counters_numbers, numbers, stages_numbers, numbered}
use Rattle.sp_core.specs.Numbering.{counters_size, node_count, number_count}
use Rattle.sp_core.specs.PlainCore.{PlainOp, PlainCounter, PlainNode, PlainStages, inner, outer, fsm, branch, load, store, sparse, no_stage, more_stage, PlainCore}
use Rattle.sp_core.specs.Scope.{in_lanes, loops_of, group_values}
use Rattle.sp_plan.specs.Groups.{Separated, StagesSeparated}
use Rattle.sp_plan.specs.Nodes.{NodeRule}
use Rattle.sp_plan.specs.PlainPlan.{PlainNodePlan, PlainPlan, node_plan}
use Rattle.sp_plan.specs.Validity.{schemes_of, kind_rule, time_rule, group_rule}
use Rattle.sp_time.specs.Beats.{Slot, Run, took_at, starts}
use Rattle.sp_time.specs.Lists.{Each, Pairs}
use Rattle.sp_words.specs.declared.kind.Style.{Style}
use Rattle.sp_machine.specs.InOrder.{IsPlaced}
use Rattle.sp_machine.specs.Laws.{told}
use Rattle.sp_machine.specs.Sound.{IsSound, AreSound, RunsSound, TurnsSound}
use Rattle.sp_machine.specs.Stamps.{Stamped, Copies, moved, later, stamped, ◌▸◌, list_run, kept_run}
use Rattle.sp_machine.specs.Timeline.{timed, group_runs, stage_runs, turn_runs, core_timed, issued_by, body_events, in_copies, slots_of, fresh_events, stage_events, group_events}
use Rattle.sp_machine.specs.Transfers.{Delays}
use Rattle.sp_machine.proofs.Told.{told_node}
use Rattle.sp_overlap.specs.Whole.{IsTimed, AreTimed, HasPlan}
use Rattle.sp_overlap.proofs.Planned.{Holds, AllHold, outer_holds, fsm_holds, branch_holds, stage_holds}
use Rattle.sp_overlap.proofs.Whole.{plans_are_sound}
use Rattle.sp_ports.specs.Banks.{IsAtOwnForms, ShareNoPort}
use Rattle.sp_ports.specs.Laws.{IsInnerRight}
use Rattle.sp_ports.specs.Whole.{InnersShareNone, GroupsShareNone, StagesShareNone, TurnsShareNone, PlannedInnersShareNoPort}
use Rattle.sp_ports.proofs.Inners.{inner_shares_none, issued_forms}
use Rattle.sp_ports.proofs.Numbers.{AreNumbered, numbered_left, numbered_right, list_many, two_many, counters_many, node_many}

each_split : {A : Type 0} (Q : A → Type 0) (a b : List A) → Each Q (a ++ b) → Each Q a × Each Q b
each_split Q [] b h = (tt, h)
each_split Q (x ∷ a) b h = let r = each_split Q a b h.1 in ((h.0, r.0), r.1)

module _ (core : PlainCore) (forms : PlainForms) (meets : List Meet) (plan : PlainPlan) (delays : Delays) (symbols : List At → ℕ → ℤ) where
  abbrev AtForms : Stamped → Type 0
  AtForms s = IsAtOwnForms core forms symbols s.moment

  at_moved : (n : ℕ) (xs : List Stamped) → Each AtForms (later n xs) → Each AtForms xs
  at_moved n [] h = tt
  at_moved n (x ∷ xs) h = (h.0, at_moved n xs h.1)

  at_then : (a b : Run Stamped) → Each AtForms (a ▸ b).events → Each AtForms a.events × Each AtForms b.events
  at_then a b h = let q = each_split AtForms a.events (later a.took b.events) h in (q.0, at_moved a.took b.events q.1)

  from_told : (xs : List Stamped) → Each (IsAtOwnForms core forms symbols) (told xs) → Each AtForms xs
  from_told [] h = tt
  from_told (x ∷ xs) h = (h.0, from_told xs h.1)

  -- the runs of stages in the groups of an outer body
  abbrev TableAt : List (List (Run Stamped)) → Type 0
  TableAt rows = Each (λ row. Each (λ (r : Run Stamped). Each AtForms r.events) row) rows

  row_at : (slots : List Slot) (runs : List (List (Run Stamped))) (g s : ℕ) (row : List (Run Stamped)) → Each AtForms (stage_events core plan delays slots runs g s row) → Each (λ (r : Run Stamped). Each AtForms r.events) row
  row_at slots runs g s [] h = tt
  row_at slots runs g s (r ∷ row) h =
      let q = each_split AtForms (later (starts slots (took_at runs) g s) r.events) (stage_events core plan delays slots runs g (suc s) row) h in
      (at_moved (starts slots (took_at runs) g s) r.events q.0, row_at slots runs g (suc s) row q.1)

  table_at : (slots : List Slot) (runs : List (List (Run Stamped))) (p : PlainNodePlan) (stages : PlainStages) (copies : Copies) (owned : List ℕ) (g : ℕ) (rows : List (List (Run Stamped))) → Each AtForms (group_events core plan delays slots runs p stages copies owned g rows) → TableAt rows
  table_at slots runs p stages copies owned g [] h = tt
  table_at slots runs p stages copies owned g (row ∷ rows) h =
      let fresh : List Stamped = fresh_events core plan delays slots runs p stages (in_copies core plan delays owned g copies) g owned in
      let here : List Stamped = stage_events core plan delays slots runs g 0 row in
      let q = each_split AtForms (fresh ++ here) (group_events core plan delays slots runs p stages copies owned (suc g) rows) h in
      (row_at slots runs g 0 row (each_split AtForms fresh here q.0).1, table_at slots runs p stages copies owned (suc g) rows q.1)

  -- what a node keeps, by its numbers and what stands around it
  record Keeps (node : PlainNode) (k n : ℕ) (around : Around) (earlier : List ℕ) : Type 0 where
    pub right : IsRight core around earlier node
    pub timed : IsTimed node
    pub kinds : Holds (kind_rule core forms meets plan) k n node
    pub times : Holds (time_rule core forms meets plan) k n node
    pub groups : Holds (group_rule core forms meets plan) k n node
    pub separated : Separated core forms (schemes_of plan) n node
    pub numbered : AreNumbered core n (numbers node)

  record AllKeep (stages : PlainStages) (k n : ℕ) (around : Around) (earlier : List ℕ) : Type 0 where
    pub right : AreRight core around earlier stages
    pub timed : AreTimed stages
    pub kinds : AllHold (kind_rule core forms meets plan) k n stages
    pub times : AllHold (time_rule core forms meets plan) k n stages
    pub groups : AllHold (group_rule core forms meets plan) k n stages
    pub separated : StagesSeparated core forms (schemes_of plan) n stages
    pub numbered : AreNumbered core n (stages_numbers stages)

  outer_keeps : (counters : List PlainCounter) (style : Style) (owned : List ℕ) (stages : PlainStages) (k n : ℕ) (around : Around) (earlier : List ℕ) → Keeps (outer counters style owned stages) k n around earlier
      → AllKeep stages (suc k) (n + counters_size counters) (within around counters owned) (earlier ++ owned)
  outer_keeps counters style owned stages k n around earlier w = record {
    right = w.right.1;
    timed = w.timed.1;
    kinds = (outer_holds (kind_rule core forms meets plan) k n counters style owned stages w.timed.0 w.kinds).1;
    times = (outer_holds (time_rule core forms meets plan) k n counters style owned stages w.timed.0 w.times).1;
    groups = (outer_holds (group_rule core forms meets plan) k n counters style owned stages w.timed.0 w.groups).1;
    separated = w.separated;
    numbered = numbered_right core n (n + counters_size counters) (counters_numbers counters) (stages_numbers stages) (ap (λ x. n + x) (counters_many counters)) w.numbered;
  }

  first_keeps : (first last : ℕ) (comb : Bool) (node : PlainNode) (rest : PlainStages) (k n : ℕ) (around : Around) (earlier : List ℕ) → AllKeep (more_stage first last comb node rest) k n around earlier → Keeps node k n around earlier
  first_keeps first last comb node rest k n around earlier w = record {
    right = w.right.0;
    timed = w.timed.0;
    kinds = (stage_holds (kind_rule core forms meets plan) k n first last comb node rest w.kinds).0;
    times = (stage_holds (time_rule core forms meets plan) k n first last comb node rest w.times).0;
    groups = (stage_holds (group_rule core forms meets plan) k n first last comb node rest w.groups).0;
    separated = w.separated.0;
    numbered = numbered_left core n (numbers node) (stages_numbers rest) w.numbered;
  }

  rest_keeps : (first last : ℕ) (comb : Bool) (node : PlainNode) (rest : PlainStages) (k n : ℕ) (around : Around) (earlier : List ℕ) → AllKeep (more_stage first last comb node rest) k n around earlier
      → AllKeep rest (k + node_count node) (n + number_count node) around (earlier ++ owned_in node)
  rest_keeps first last comb node rest k n around earlier w = record {
    right = w.right.1;
    timed = w.timed.1;
    kinds = (stage_holds (kind_rule core forms meets plan) k n first last comb node rest w.kinds).1;
    times = (stage_holds (time_rule core forms meets plan) k n first last comb node rest w.times).1;
    groups = (stage_holds (group_rule core forms meets plan) k n first last comb node rest w.groups).1;
    separated = w.separated.1;
    numbered = numbered_right core n (n + number_count node) (numbers node) (stages_numbers rest) (ap (λ x. n + x) (node_many node)) w.numbered;
  }

  body_keeps : (start : List PlainOp) (state : ℕ) (test : List PlainOp) (body : PlainNode) (next : List PlainOp) (k n : ℕ) (around : Around) (earlier : List ℕ) → Keeps (fsm start state test body next) k n around earlier
      → Keeps body (suc k) (n + (length start + length test)) (with_state core around state) (earlier ++ state ∷ [])
  body_keeps start state test body next k n around earlier w = record {
    right = w.right.1;
    timed = w.timed;
    kinds = fsm_holds (kind_rule core forms meets plan) k n start state test body next w.kinds;
    times = fsm_holds (time_rule core forms meets plan) k n start state test body next w.times;
    groups = fsm_holds (group_rule core forms meets plan) k n start state test body next w.groups;
    separated = w.separated;
    numbered = numbered_left core (n + (length start + length test)) (numbers body) (list_numbers next)
        (numbered_right core n (n + (length start + length test)) (list_numbers start ++ list_numbers test) (numbers body ++ list_numbers next) (ap (λ x. n + x) (two_many start test)) w.numbered);
  }

  left_keeps : (test : List PlainOp) (first second : PlainNode) (k n : ℕ) (around : Around) (earlier : List ℕ) → Keeps (branch test first second) k n around earlier → Keeps first (suc k) (n + length test) around earlier
  left_keeps test first second k n around earlier w = record {
    right = w.right.1;
    timed = w.timed.0;
    kinds = (branch_holds (kind_rule core forms meets plan) k n test first second w.kinds).0;
    times = (branch_holds (time_rule core forms meets plan) k n test first second w.times).0;
    groups = (branch_holds (group_rule core forms meets plan) k n test first second w.groups).0;
    separated = w.separated.0;
    numbered = numbered_left core (n + length test) (numbers first) (numbers second)
        (numbered_right core n (n + length test) (list_numbers test) (numbers first ++ numbers second) (ap (λ x. n + x) (list_many test)) w.numbered);
  }

  right_keeps : (test : List PlainOp) (first second : PlainNode) (k n : ℕ) (around : Around) (earlier : List ℕ) → Keeps (branch test first second) k n around earlier
      → Keeps second (suc k + node_count first) (n + (length test + number_count first)) around (earlier ++ owned_in first)
  right_keeps test first second k n around earlier w = record {
    right = w.right.2;
    timed = w.timed.1;
    kinds = here (kind_rule core forms meets plan) (branch_holds (kind_rule core forms meets plan) k n test first second w.kinds).1;
    times = here (time_rule core forms meets plan) (branch_holds (time_rule core forms meets plan) k n test first second w.times).1;
    groups = here (group_rule core forms meets plan) (branch_holds (group_rule core forms meets plan) k n test first second w.groups).1;
    separated = subst (λ x. Separated core forms (schemes_of plan) x second) same w.separated.1;
    numbered = numbered_right core (n + length test) (n + (length test + number_count first)) (numbers first) (numbers second) (let e : length (numbers first) ≡ number_count first = node_many first in omega arith)
        (numbered_right core n (n + length test) (list_numbers test) (numbers first ++ numbers second) (ap (λ x. n + x) (list_many test)) w.numbered);
  }
    where
      same : (n + length test) + number_count first ≡ n + (length test + number_count first)
      same = omega arith

      here : (rule : NodeRule) → Holds rule (suc k + node_count first) ((n + length test) + number_count first) second → Holds rule (suc k + node_count first) (n + (length test + number_count first)) second
      here rule h = subst (λ x. Holds rule (suc k + node_count first) x second) same h

  mutual
    unfolding timed group_runs stage_runs turn_runs

    node_shares_none : (node : PlainNode) (k n : ℕ) (st : Standing) (copies : Copies) (h : History) (around : Around) (earlier : List ℕ) → Keeps node k n around earlier → IsSound core plan delays (schemes_of plan) meets node k n st copies h
        → Each AtForms (timed core plan delays node k n st copies h).events → InnersShareNone core plan delays forms node k n st copies h
    node_shares_none (inner counters owned ops comb) k n st copies (inner_ran bs counts groups) around earlier w sound at =
        let values = group_values (loops_of in_lanes counters bs) in
        inner_shares_none core plan delays forms meets symbols around k n st copies counters owned ops comb bs groups sound.1
        (record { bounds = (and_parts _ _ (and_parts _ _ (and_parts _ _ w.right).0).0).1; kind = w.kinds; timed = w.times; grouped = w.groups; separated = w.separated })
        (issued_forms core plan delays forms meets symbols around k n st copies counters owned ops comb values groups (node_plan plan k) w.kinds
        (numbered_right core n (n + counters_size counters) (counters_numbers counters) (list_numbers ops) (ap (λ x. n + x) (counters_many counters)) w.numbered)
        (each_split AtForms (stamped copies 0 (bounds_moments n (inside_at st k before []) counters bs)) (body_events core plan delays (issued_by core ops (node_plan plan k)) copies k (n + counters_size counters) 0 st owned ops values groups) at).1) sound.3
    node_shares_none (outer counters style owned stages) k n st copies (outer_ran bs counts groups) around earlier w sound at =
        let values = group_values (loops_of in_lanes counters bs) in
        let runs = group_runs core plan delays stages k (n + counters_size counters) 0 st owned copies values groups in
        let body : List Stamped = group_events core plan delays (slots_of (node_plan plan k)) runs (node_plan plan k) stages copies owned 0 runs in
        groups_share_none stages k (n + counters_size counters) 0 st owned copies values groups (within around counters owned) (earlier ++ owned) (outer_keeps counters style owned stages k n around earlier w) sound.2
        (table_at (slots_of (node_plan plan k)) runs (node_plan plan k) stages copies owned 0 runs (each_split AtForms (stamped copies 0 (bounds_moments n (inside_at st k before []) counters bs)) body at).1)
    node_shares_none (fsm start state test body next) k n st copies (fsm_ran first ts last) around earlier w sound at =
        let begin : Run Stamped = kept_run core copies n (inside_at st k before []) start first state (last_word first) in
        let rest : Run Stamped = turn_runs core plan delays start state test body next k n 0 st copies ts last in
        turns_share_none start state test body next k n 0 st copies ts last (with_state core around state) (earlier ++ state ∷ []) (body_keeps start state test body next k n around earlier w) sound (at_then begin rest (at_moved 1 (begin ▸ rest).events at)).1
    node_shares_none (branch test first second) k n st copies (branch_ran es true h) around earlier w sound at =
        let asked : Run Stamped = list_run core copies n (inside_at st k (in_turn 0) []) test es in
        let taken : Run Stamped = timed core plan delays first (suc k) (n + length test) (inside_at st k (in_turn 0) []) copies h in
        node_shares_none first (suc k) (n + length test) (inside_at st k (in_turn 0) []) copies h around earlier (left_keeps test first second k n around earlier w) sound (at_then asked taken (at_moved 1 (asked ▸ taken).events at)).1
    node_shares_none (branch test first second) k n st copies (branch_ran es false h) around earlier w sound at =
        let asked : Run Stamped = list_run core copies n (inside_at st k (in_turn 0) []) test es in
        let taken : Run Stamped = timed core plan delays second (suc k + node_count first) (n + (length test + number_count first)) (inside_at st k (in_turn 0) []) copies h in
        node_shares_none second (suc k + node_count first) (n + (length test + number_count first)) (inside_at st k (in_turn 0) []) copies h around (earlier ++ owned_in first) (right_keeps test first second k n around earlier w) sound
        (at_then asked taken (at_moved 1 (asked ▸ taken).events at)).1
    node_shares_none node k n st copies h around earlier w sound at = tt

    groups_share_none : (stages : PlainStages) (k n g : ℕ) (st : Standing) (owned : List ℕ) (copies : Copies) (values : List (List ℤ)) (groups : Groups) (around : Around) (earlier : List ℕ) → AllKeep stages (suc k) n around earlier
        → AreSound core plan delays (schemes_of plan) meets stages k n g st owned copies values groups → TableAt (group_runs core plan delays stages k n g st owned copies values groups) → GroupsShareNone core plan delays forms stages k n g st owned copies values groups
    groups_share_none stages k n g st owned copies (v ∷ values) (more_group rs rest) around earlier w sound at = (
      stages_share_none stages k n 0 g (suc k) v st (in_copies core plan delays owned g copies) rs around earlier w sound.0 at.0,
      groups_share_none stages k n (suc g) st owned copies values rest around earlier w sound.1 at.1,
    )
    groups_share_none stages k n g st owned copies [] groups around earlier w sound at = tt
    groups_share_none stages k n g st owned copies (v ∷ values) no_group around earlier w sound at = tt

    stages_share_none : (stages : PlainStages) (k n s g j : ℕ) (v : List ℤ) (st : Standing) (copies : Copies) (rs : Runs) (around : Around) (earlier : List ℕ) → AllKeep stages j n around earlier
        → RunsSound core plan delays (schemes_of plan) meets stages k n s g j v st copies rs → Each (λ (r : Run Stamped). Each AtForms r.events) (stage_runs core plan delays stages k n s g j v st copies rs)
        → StagesShareNone core plan delays forms stages k n s g j v st copies rs
    stages_share_none (more_stage first last comb node rest) k n s g j v st copies (more_run h rs) around earlier w sound at = (
      node_shares_none node j n (inside_at st k (in_group_of g s) v) copies h around earlier (first_keeps first last comb node rest j n around earlier w) sound.0 at.0,
      stages_share_none rest k (n + number_count node) (suc s) g (j + node_count node) v st copies rs around (earlier ++ owned_in node) (rest_keeps first last comb node rest j n around earlier w) sound.1 at.1,
    )
    stages_share_none (more_stage first last comb node rest) k n s g j v st copies (masked_run rs) around earlier w sound at =
        stages_share_none rest k (n + number_count node) (suc s) g (j + node_count node) v st copies rs around (earlier ++ owned_in node) (rest_keeps first last comb node rest j n around earlier w) sound at.1
    stages_share_none (more_stage first last comb node rest) k n s g j v st copies no_run around earlier w sound at = tt
    stages_share_none no_stage k n s g j v st copies rs around earlier w sound at = tt

    turns_share_none : (start : List PlainOp) (state : ℕ) (test : List PlainOp) (body : PlainNode) (next : List PlainOp) (k n t : ℕ) (st : Standing) (copies : Copies) (ts : Turns) (last : List Entry) (around : Around) (earlier : List ℕ) → Keeps body (suc k) (n + (length start + length test)) around earlier
        → TurnsSound core plan delays (schemes_of plan) meets start test body next k n t st copies ts → Each AtForms (turn_runs core plan delays start state test body next k n t st copies ts last).events
        → TurnsShareNone core plan delays forms start test body next k n t st copies ts
    turns_share_none start state test body next k n t st copies no_turn last around earlier w sound at = tt
    turns_share_none start state test body next k n t st copies (more_turn es h ns rest) last around earlier w sound at =
        let here : Standing = inside_at st k (in_turn t) [] in
        let tested : Run Stamped = list_run core copies (n + length start) here test es in
        let body_run : Run Stamped = timed core plan delays body (suc k) (n + (length start + length test)) here copies h in
        let next_run : Run Stamped = kept_run core copies (n + (length start + (length test + number_count body))) here next ns state (last_word ns) in
        let others : Run Stamped = turn_runs core plan delays start state test body next k n (suc t) st copies rest last in
        let one = at_then body_run (next_run ▸ others) (at_then tested (body_run ▸ next_run ▸ others) at).1 in (
          node_shares_none body (suc k) (n + (length start + length test)) here copies h around earlier w sound.0 one.0,
          turns_share_none start state test body next k n (suc t) st copies rest last around earlier w sound.1 (at_then next_run others one.1).1,
        )

pub planned_inners_share_no_port : (core : PlainCore) (plan : PlainPlan) (delays : Delays) → PlannedInnersShareNoPort core plan delays
planned_inners_share_no_port core plan delays forms meets symbols w h met at =
    node_shares_none core forms meets plan delays symbols core.root 0 0 start (λ m. 0) h nothing [] keeps (plans_are_sound core plan delays forms meets w h met)
    (from_told core forms meets plan delays symbols (core_timed core plan delays h).events (subst (Each (IsAtOwnForms core forms symbols)) (sym (told_node core plan delays core.root 0 0 start (λ m. 0) h)) at))
  where
    start : Standing
    start = record { path = []; counters = [] }

    keeps : Keeps core forms meets plan delays symbols core.root 0 0 nothing []
    keeps = record { right = w.is_core.nodes; timed = w.is_timed; kinds = w.valid.kinds; times = w.valid.times; groups = w.valid.groups; separated = w.valid.separated; numbered = λ i l. ap (numbered core) (let e : 0 + i ≡ i = omega arith in e) }
