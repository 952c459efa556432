-- A valid plan makes each part of a run sound.
use Rattle.std.proofs.Common.{◌≡◌, ℕ, suc, ◌+◌, ◌≤◌, ◌<◌, ◌⊎◌, inl, inr, Bool, true, false, ℤ, List, [], ◌∷◌, ◌++◌, length, arith, refl, subst, ap}
use Rattle.std.proofs.lemmas.Bool.{and_parts, and_from, eq-eqb, ltb-true, true≢false, false≢true}
use Rattle.std.specs.List.{list_all}
use Rattle.sp_words.specs.declared.kind.Style.{Style}
use Rattle.std.specs.Prelude.{◌==◌, ◌&&◌, ◌||◌, not, Option}
use Rattle.sp_core.specs.declared.access.Meet.{Meet}
use Rattle.sp_core.specs.Around.{Around, within, is_usable}
use Rattle.sp_core.specs.Declarations.{is_among, is_stream}
use Rattle.sp_core.specs.Events.{Event, At, When, Standing, inside_at, before, in_group_of, in_turn, Moment, touches, slices, renews, keeps, bounds_moments, events_of, moments}
use Rattle.sp_core.specs.Forms.{PlainForms}
use Rattle.sp_core.specs.History.{Entry, Bounds, last_word, History, Groups, Runs, Turns, inner_ran, outer_ran, fsm_ran, branch_ran, moved, no_group, more_group, no_run, masked_run, more_run, no_turn, more_turn}
use Rattle.sp_core.specs.Invariant.{IsRight, AreRight, owned_in}
use Rattle.sp_core.specs.Meeting.{are_at_once, is_group, is_met, are_met, is_in_stream, outers, outers_in}
use Rattle.sp_core.specs.NodeRules.{with_state, fits_sram, fits_line}
use Rattle.sp_core.specs.Numbering.{counters_size, node_count, node_count_in, number_count}
use Rattle.sp_core.specs.PlainCore.{PlainOp, PlainCounter, PlainSpan, PlainNode, PlainStages, inner, outer, fsm, branch, load, store, sparse, no_stage, more_stage, PlainCore}
use Rattle.sp_core.specs.Scope.{in_lanes, loops_of, group_values}
use Rattle.sp_plan.proofs.NamedAt.{list_length, two_length, counters_length, node_length}
use Rattle.sp_plan.specs.Copies.{is_loop, are_copied}
use Rattle.sp_plan.specs.Named.{list_names, counters_names, names, stages_names}
use Rattle.sp_plan.specs.Nodes.{NodeRule}
use Rattle.sp_plan.specs.PlainPlan.{PlainNodePlan, inner_plan, outer_plan, other_plan, PlainPlan, node_plan}
use Rattle.sp_plan.specs.Slots.{runs_of, is_once}
use Rattle.sp_plan.specs.Validity.{schemes_of, stage_count, is_kind_of, are_divided_right, is_timed, are_runs_right, kind_rule, time_rule, slot_rule, copy_rule}
use Rattle.sp_time.specs.Beats.{Slot, Run, took_at, starts}
use Rattle.sp_time.specs.Lists.{Each, Pairs}
use Rattle.sp_machine.specs.Laws.{told}
use Rattle.sp_machine.specs.Sound.{AreTimed as AreTimesRight, IsSound, AreSound, RunsSound, TurnsSound}
use Rattle.sp_machine.specs.Stamps.{Stamped, Copies, stamped, later, list_run, kept_run, ◌▸◌}
use Rattle.sp_machine.specs.Timeline.{timed, group_runs, stage_runs, turn_runs, issued_by, body_events, fresh_events, stage_events, group_events, in_copies, slots_of}
use Rattle.sp_machine.specs.Transfers.{Delays}
use Rattle.sp_machine.proofs.InnerOrder.{MomentsMet, AreMet}
use Rattle.sp_overlap.specs.Apart.{StandAt}
use Rattle.sp_overlap.specs.Laws.{IsOuterRight}
use Rattle.sp_overlap.specs.Whole.{IsTimed, AreTimed, IsByLane, AreByLane}
use Rattle.sp_overlap.proofs.Compared.{pairs_split}
use Rattle.sp_overlap.proofs.Inside.{stand_left, stand_right}
use Rattle.sp_overlap.proofs.Lanes.{or_choose}
use Rattle.sp_overlap.proofs.Looked.{bounds_look, spans_look}
use Rattle.sp_overlap.proofs.Owners.{Numbered, numbered, numbered_in, Owned, owned_here, owned_below, owned_left, owned_right, owned_within, owns_nothing}
use Rattle.sp_overlap.proofs.Parts.{among_left, among_right}
use Rattle.sp_overlap.proofs.Planned.{Holds, AllHold, outer_holds, fsm_holds, branch_holds, stage_holds, OuterPlan, outer_plan_of, stages_planned}
use Rattle.sp_overlap.proofs.Precede.{overlaps_precede}
use Rattle.sp_overlap.proofs.Scoped.{in_two, owned_apart, stages_private}

module _ (core : PlainCore) (forms : PlainForms) (meets : List Meet) (plan : PlainPlan) (delays : Delays) (no_stream : (k : ℕ) → is_in_stream core k ≡ false) where
  abbrev Met : Stamped → Stamped → Type 0
  Met s t = AreMet core meets s t

  -- moments that are met, whatever their cycles are
  met_moved : (n : ℕ) (es : List Stamped) → Pairs Met (later n es) → Pairs Met es
  met_moved n [] h = tt
  met_moved n (e ∷ es) h = (each es h.0, met_moved n es h.1)
    where
      each : (ys : List Stamped) → Each (Met e) (later n ys) → Each (Met e) ys
      each [] h = tt
      each (y ∷ ys) h = (h.0, each ys h.1)

  met_then : (a b : Run Stamped) → Pairs Met (a ▸ b).events → Pairs Met a.events × Pairs Met b.events
  met_then a b h = let q = pairs_split Met a.events (later a.took b.events) h in (q.0, met_moved a.took b.events q.1)

  -- as a test
  all_met : (e : Event) (ys : List Stamped) → Each (λ t. MomentsMet core meets (touches e) t.moment) ys → list_all (is_met core meets e) (events_of (told ys)) ≡ true
  all_met e [] h = refl
  all_met e (y ∷ ys) h = go (all_met e ys h.1) y.moment h.0
    where
      go : list_all (is_met core meets e) (events_of (told ys)) ≡ true → (m : Moment) → MomentsMet core meets (touches e) m → list_all (is_met core meets e) (events_of (m ∷ told ys)) ≡ true
      go rest (touches f) x = and_from (is_met core meets e f) (list_all (is_met core meets e) (events_of (told ys))) x rest
      go rest (slices z) x = rest
      go rest (renews z) x = rest
      go rest (keeps z w) x = rest

  met_events : (es : List Stamped) → Pairs Met es → are_met core meets (events_of (told es)) ≡ true
  met_events [] h = refl
  met_events (e ∷ es) h = go (met_events es h.1) e.moment h.0
    where
      go : are_met core meets (events_of (told es)) ≡ true → (m : Moment) → Each (λ t. MomentsMet core meets m t.moment) es → are_met core meets (events_of (m ∷ told es)) ≡ true
      go rest (touches f) x = and_from (list_all (is_met core meets f) (events_of (told es))) (are_met core meets (events_of (told es))) (all_met f es x) rest
      go rest (slices z) x = rest
      go rest (renews z) x = rest
      go rest (keeps z w) x = rest

  -- the runs of stages in the groups of an outer body
  abbrev TableMet : List (List (Run Stamped)) → Type 0
  TableMet rows = Each (λ row. Each (λ (r : Run Stamped). Pairs Met r.events) row) rows

  row_met : (slots : List Slot) (runs : List (List (Run Stamped))) (g s : ℕ) (row : List (Run Stamped)) → Pairs Met (stage_events core plan delays slots runs g s row) → Each (λ (r : Run Stamped). Pairs Met r.events) row
  row_met slots runs g s [] h = tt
  row_met slots runs g s (r ∷ row) h =
      let q = pairs_split Met (later (starts slots (took_at runs) g s) r.events) (stage_events core plan delays slots runs g (suc s) row) h in
      (met_moved (starts slots (took_at runs) g s) r.events q.0, row_met slots runs g (suc s) row q.1)

  table_met : (slots : List Slot) (runs : List (List (Run Stamped))) (p : PlainNodePlan) (stages : PlainStages) (copies : Copies) (owned : List ℕ) (g : ℕ) (rows : List (List (Run Stamped))) → Pairs Met (group_events core plan delays slots runs p stages copies owned g rows) → TableMet rows
  table_met slots runs p stages copies owned g [] h = tt
  table_met slots runs p stages copies owned g (row ∷ rows) h =
      let fresh : List Stamped = fresh_events core plan delays slots runs p stages (in_copies core plan delays owned g copies) g owned in
      let here : List Stamped = stage_events core plan delays slots runs g 0 row in
      let q = pairs_split Met (fresh ++ here) (group_events core plan delays slots runs p stages copies owned (suc g) rows) h in
      (row_met slots runs g 0 row (pairs_split Met fresh here q.0).1, table_met slots runs p stages copies owned (suc g) rows q.1)

  -- what a node keeps, by its numbers, what stands around it and what nodes before it own
  pub record Keeps (node : PlainNode) (k n : ℕ) (around : Around) (earlier : List ℕ) : Type 0 where
    pub right : IsRight core around earlier node
    pub scoped : (m : ℕ) → is_among m around.owned ≡ true → is_among m earlier ≡ true
    pub timed : IsTimed node
    pub by_lane : IsByLane core node
    pub kinds : Holds (kind_rule core forms meets plan) k n node
    pub times : Holds (time_rule core forms meets plan) k n node
    pub slots : Holds (slot_rule core forms meets plan) k n node
    pub copied : Holds (copy_rule core forms meets plan) k n node
    pub named : StandAt core n (names core node)
    pub own : Owned core k (k + node_count node) (outers k node)

  pub record AllKeep (stages : PlainStages) (k n : ℕ) (around : Around) (earlier : List ℕ) : Type 0 where
    pub right : AreRight core around earlier stages
    pub scoped : (m : ℕ) → is_among m around.owned ≡ true → is_among m earlier ≡ true
    pub timed : AreTimed stages
    pub by_lane : AreByLane core stages
    pub kinds : AllHold (kind_rule core forms meets plan) k n stages
    pub times : AllHold (time_rule core forms meets plan) k n stages
    pub slots : AllHold (slot_rule core forms meets plan) k n stages
    pub copied : AllHold (copy_rule core forms meets plan) k n stages
    pub named : StandAt core n (stages_names core stages)
    pub own : Owned core k (k + node_count_in stages) (outers_in k stages)

  wider_scope : (around : Around) (earlier owned : List ℕ) (counters : List PlainCounter) → ((m : ℕ) → is_among m around.owned ≡ true → is_among m earlier ≡ true) → (m : ℕ) → is_among m (owned ++ around.owned) ≡ true → is_among m (earlier ++ owned) ≡ true
  wider_scope around earlier owned counters h m e = elim (in_two core m owned around.owned e) [
    | inl x ↦ among_right m earlier owned x
    | inr x ↦ among_left m earlier owned (h m x)
  ]

  outer_keeps : (counters : List PlainCounter) (style : Style) (owned : List ℕ) (stages : PlainStages) (k n : ℕ) (around : Around) (earlier : List ℕ) → Keeps (outer counters style owned stages) k n around earlier
      → AllKeep stages (suc k) (n + counters_size counters) (within around counters owned) (earlier ++ owned)
  outer_keeps counters style owned stages k n around earlier w = record {
    right = w.right.1;
    scoped = wider_scope around earlier owned counters w.scoped;
    timed = w.timed.1;
    by_lane = w.by_lane.1;
    kinds = (outer_holds (kind_rule core forms meets plan) k n counters style owned stages w.timed.0 w.kinds).1;
    times = (outer_holds (time_rule core forms meets plan) k n counters style owned stages w.timed.0 w.times).1;
    slots = (outer_holds (slot_rule core forms meets plan) k n counters style owned stages w.timed.0 w.slots).1;
    copied = (outer_holds (copy_rule core forms meets plan) k n counters style owned stages w.timed.0 w.copied).1;
    named = stand_right core n (n + counters_size counters) (counters_names counters) (stages_names core stages) (ap (λ x. n + x) (counters_length counters)) w.named;
    own = owned_within core (suc k) (k + (1 + node_count_in stages)) (suc k) (suc k + node_count_in stages) (outers_in (suc k) stages) (omega arith) (omega arith)
        (owned_below core k (k + (1 + node_count_in stages)) (is_stream style) (are_at_once counters style) owned (outers_in (suc k) stages) w.own);
  }

  first_keeps : (first last : ℕ) (comb : Bool) (node : PlainNode) (rest : PlainStages) (k n : ℕ) (around : Around) (earlier : List ℕ) → AllKeep (more_stage first last comb node rest) k n around earlier → Keeps node k n around earlier
  first_keeps first last comb node rest k n around earlier w = record {
    right = w.right.0;
    scoped = w.scoped;
    timed = w.timed.0;
    by_lane = w.by_lane.0;
    kinds = (stage_holds (kind_rule core forms meets plan) k n first last comb node rest w.kinds).0;
    times = (stage_holds (time_rule core forms meets plan) k n first last comb node rest w.times).0;
    slots = (stage_holds (slot_rule core forms meets plan) k n first last comb node rest w.slots).0;
    copied = (stage_holds (copy_rule core forms meets plan) k n first last comb node rest w.copied).0;
    named = stand_left core n (names core node) (stages_names core rest) w.named;
    own = owned_left core k (k + node_count node) (k + (node_count node + node_count_in rest)) (outers k node) (outers_in (k + node_count node) rest) w.own (omega arith)
        (subst (λ x. Numbered (k + node_count node) x (outers_in (k + node_count node) rest)) (omega arith) (numbered_in rest (k + node_count node)));
  }

  rest_keeps : (first last : ℕ) (comb : Bool) (node : PlainNode) (rest : PlainStages) (k n : ℕ) (around : Around) (earlier : List ℕ) → AllKeep (more_stage first last comb node rest) k n around earlier
      → AllKeep rest (k + node_count node) (n + number_count node) around (earlier ++ owned_in node)
  rest_keeps first last comb node rest k n around earlier w = record {
    right = w.right.1;
    scoped = λ m e. among_left m earlier (owned_in node) (w.scoped m e);
    timed = w.timed.1;
    by_lane = w.by_lane.1;
    kinds = (stage_holds (kind_rule core forms meets plan) k n first last comb node rest w.kinds).1;
    times = (stage_holds (time_rule core forms meets plan) k n first last comb node rest w.times).1;
    slots = (stage_holds (slot_rule core forms meets plan) k n first last comb node rest w.slots).1;
    copied = (stage_holds (copy_rule core forms meets plan) k n first last comb node rest w.copied).1;
    named = stand_right core n (n + number_count node) (names core node) (stages_names core rest) (ap (λ x. n + x) (node_length core node)) w.named;
    own = owned_within core (k + node_count node) (k + (node_count node + node_count_in rest)) (k + node_count node) (k + node_count node + node_count_in rest) (outers_in (k + node_count node) rest) (omega arith) (omega arith)
        (owned_right core k (k + node_count node) (k + (node_count node + node_count_in rest)) (outers k node) (outers_in (k + node_count node) rest) w.own (omega arith) (numbered node k));
  }

  body_keeps : (start : List PlainOp) (state : ℕ) (test : List PlainOp) (body : PlainNode) (next : List PlainOp) (k n : ℕ) (around : Around) (earlier : List ℕ) → Keeps (fsm start state test body next) k n around earlier
      → Keeps body (suc k) (n + (length start + length test)) (with_state core around state) (earlier ++ state ∷ [])
  body_keeps start state test body next k n around earlier w = record {
    right = w.right.1;
    scoped = wider_scope around earlier (state ∷ []) [] w.scoped;
    timed = w.timed;
    by_lane = w.by_lane;
    kinds = fsm_holds (kind_rule core forms meets plan) k n start state test body next w.kinds;
    times = fsm_holds (time_rule core forms meets plan) k n start state test body next w.times;
    slots = fsm_holds (slot_rule core forms meets plan) k n start state test body next w.slots;
    copied = fsm_holds (copy_rule core forms meets plan) k n start state test body next w.copied;
    named = stand_left core (n + (length start + length test)) (names core body) (list_names next)
        (stand_right core n (n + (length start + length test)) (list_names start ++ list_names test) (names core body ++ list_names next) (ap (λ x. n + x) (two_length start test)) w.named);
    own = owned_within core k (k + (1 + node_count body)) (suc k) (suc k + node_count body) (outers (suc k) body) (omega arith) (omega arith) w.own;
  }

  left_keeps : (test : List PlainOp) (first second : PlainNode) (k n : ℕ) (around : Around) (earlier : List ℕ) → Keeps (branch test first second) k n around earlier → Keeps first (suc k) (n + length test) around earlier
  left_keeps test first second k n around earlier w = record {
    right = w.right.1;
    scoped = w.scoped;
    timed = w.timed.0;
    by_lane = w.by_lane.0;
    kinds = (branch_holds (kind_rule core forms meets plan) k n test first second w.kinds).0;
    times = (branch_holds (time_rule core forms meets plan) k n test first second w.times).0;
    slots = (branch_holds (slot_rule core forms meets plan) k n test first second w.slots).0;
    copied = (branch_holds (copy_rule core forms meets plan) k n test first second w.copied).0;
    named = stand_left core (n + length test) (names core first) (names core second)
        (stand_right core n (n + length test) (list_names test) (names core first ++ names core second) (ap (λ x. n + x) (list_length test)) w.named);
    own = owned_within core k (suc k + node_count first) (suc k) (suc k + node_count first) (outers (suc k) first) (omega arith) (omega arith)
        (owned_left core k (suc k + node_count first) (k + (1 + (node_count first + node_count second))) (outers (suc k) first) (outers (suc k + node_count first) second) w.own (omega arith)
        (subst (λ x. Numbered (suc k + node_count first) x (outers (suc k + node_count first) second)) (omega arith) (numbered second (suc k + node_count first))));
  }

  right_keeps : (test : List PlainOp) (first second : PlainNode) (k n : ℕ) (around : Around) (earlier : List ℕ) → Keeps (branch test first second) k n around earlier
      → Keeps second (suc k + node_count first) (n + (length test + number_count first)) around (earlier ++ owned_in first)
  right_keeps test first second k n around earlier w = record {
    right = w.right.2;
    scoped = λ m e. among_left m earlier (owned_in first) (w.scoped m e);
    timed = w.timed.1;
    by_lane = w.by_lane.1;
    kinds = here (kind_rule core forms meets plan) (branch_holds (kind_rule core forms meets plan) k n test first second w.kinds).1;
    times = here (time_rule core forms meets plan) (branch_holds (time_rule core forms meets plan) k n test first second w.times).1;
    slots = here (slot_rule core forms meets plan) (branch_holds (slot_rule core forms meets plan) k n test first second w.slots).1;
    copied = here (copy_rule core forms meets plan) (branch_holds (copy_rule core forms meets plan) k n test first second w.copied).1;
    named = stand_right core (n + length test) (n + (length test + number_count first)) (names core first) (names core second) (let e : length (names core first) ≡ number_count first = node_length core first in omega arith)
        (stand_right core n (n + length test) (list_names test) (names core first ++ names core second) (ap (λ x. n + x) (list_length test)) w.named);
    own = owned_within core (suc k + node_count first) (k + (1 + (node_count first + node_count second))) (suc k + node_count first) (suc k + node_count first + node_count second) (outers (suc k + node_count first) second) (omega arith) (omega arith)
        (owned_right core (suc k) (suc k + node_count first) (k + (1 + (node_count first + node_count second))) (outers (suc k) first) (outers (suc k + node_count first) second)
        (owned_within core k (k + (1 + (node_count first + node_count second))) (suc k) (k + (1 + (node_count first + node_count second))) (outers (suc k) first ++ outers (suc k + node_count first) second) (omega arith) (omega arith) w.own) (omega arith) (numbered first (suc k)));
  }
    where
      here : (rule : NodeRule) → Holds rule (suc k + node_count first) ((n + length test) + number_count first) second → Holds rule (suc k + node_count first) (n + (length test + number_count first)) second
      here rule h = subst (λ x. Holds rule (suc k + node_count first) x second) (omega arith) h

  -- inner and outer bodies by their plans
  abbrev Placed : Standing → Type 0
  Placed st = Each (λ (a : At). (is_in_stream core a.node ≡ false) × (is_group a.when a.when ≡ true)) st.path

  placed_at : (st : Standing) (k : ℕ) (when : When) (values : List ℤ) → Placed st → is_group when when ≡ true → Placed (inside_at st k when values)
  placed_at st k when values h e = go st.path h
    where
      go : (path : List At) → Each (λ (a : At). (is_in_stream core a.node ≡ false) × (is_group a.when a.when ≡ true)) path → Each (λ (a : At). (is_in_stream core a.node ≡ false) × (is_group a.when a.when ≡ true)) (path ++ record { node = k; when = when } ∷ [])
      go [] h = ((no_stream k, e), tt)
      go (a ∷ path) h = (h.0, go path h.1)

  same_group : (g s : ℕ) → is_group (in_group_of g s) (in_group_of g s) ≡ true
  same_group g s = and_from (g == g) (s == s) (eq-eqb g g refl) (eq-eqb s s refl)

  same_turn : (t : ℕ) → is_group (in_turn t) (in_turn t) ≡ true
  same_turn t = eq-eqb t t refl

  times_right : (p : PlainNodePlan) (counters : List PlainCounter) (owned : List ℕ) (ops : List PlainOp) (comb : Option ℕ) (n : ℕ) → is_kind_of (inner counters owned ops comb) p ≡ true → is_timed core forms meets plan n false (inner counters owned ops comb) p ≡ true
      → AreTimesRight core plan delays (schemes_of plan) meets (n + counters_size counters) ops p
  times_right (inner_plan times ii latency serial) counters owned ops comb n h t = t
  times_right (outer_plan slots chains) counters owned ops comb n h t = absurd (false≢true h)
  times_right other_plan counters owned ops comb n h t = absurd (false≢true h)

  once_values : (counters : List PlainCounter) (bs : List Bounds) → is_once counters ≡ true → length (group_values (loops_of in_lanes counters bs)) ≤ 1
  once_values [] bs e = omega arith
  once_values (c ∷ counters) bs e = absurd (false≢true e)

  outer_right : (counters : List PlainCounter) (style : Style) (owned : List ℕ) (stages : PlainStages) (k n : ℕ) (st : Standing) (around : Around) (earlier : List ℕ) → Placed st → Keeps (outer counters style owned stages) k n around earlier
      → (p : OuterPlan (node_plan plan k) (stage_count stages)) → IsOuterRight core plan meets k (n + counters_size counters) st counters style owned stages p.slots p.chains
  outer_right counters style owned stages k n st around earlier placed w p =
      let below : AllKeep stages (suc k) (n + counters_size counters) (within around counters owned) (earlier ++ owned) = outer_keeps counters style owned stages k n around earlier w in
      record {
        planned = p.is;
        many = (p.many_slots, p.many_chains);
        divided = divided;
        copied = copied;
        lanes = (and_parts _ _ (and_parts _ _ w.right.0).0).1;
        apart = stages_private core (within around counters owned) (earlier ++ owned) owned stages w.timed.1 w.right.1 below.scoped (λ m e. among_right m earlier owned e);
        of_one_lane = w.by_lane.0 (n + counters_size counters);
        distinct = owned_apart core earlier owned (and_parts _ _ w.right.0).1;
        named = below.named;
        around = placed;
        no_stream = no_stream k;
        owner = λ m e. owned_here core k (k + (1 + node_count_in stages)) (is_stream style) (are_at_once counters style) owned (outers_in (suc k) stages) w.own (omega arith)
            (subst (λ x. Numbered (suc k) x (outers_in (suc k) stages)) (omega arith) (numbered_in stages (suc k))) m e;
      }
    where
      left_false : (x y : Bool) → x ≡ false → (x || y) ≡ true → y ≡ true
      left_false true y e h = absurd (true≢false e)
      left_false false y e h = h

      divided : are_divided_right core meets (runs_of (n + counters_size counters) stages) counters style owned p.slots p.chains ≡ true
      divided =
          let h : are_runs_right core forms meets plan n (outer counters style owned stages) (node_plan plan k) ≡ true = (outer_holds (slot_rule core forms meets plan) k n counters style owned stages w.timed.0 w.slots).0 in
          let h2 : are_runs_right core forms meets plan n (outer counters style owned stages) (outer_plan p.slots p.chains) ≡ true = subst (λ q. are_runs_right core forms meets plan n (outer counters style owned stages) q ≡ true) p.is h in
          left_false (is_stream style) _ w.timed.0 h2

      copied : is_once counters ≡ false → are_copied core plan k owned stages ≡ true
      copied e =
          let h : (not (is_loop counters && not (is_stream style)) || are_copied core plan k owned stages) ≡ true = (outer_holds (copy_rule core forms meets plan) k n counters style owned stages w.timed.0 w.copied).0 in
          left_false (not (is_loop counters && not (is_stream style))) _ (ap not (and_from (is_loop counters) (not (is_stream style)) (ap not e) (ap not w.timed.0))) h

  -- a transfer's memory exists
  usable_here : (around : Around) (m : ℕ) → is_usable core around m ≡ true → m < length core.mems
  usable_here around m h = ltb-true _ _ (and_parts _ _ h).0

  sram_here : (around : Around) (r m : ℕ) (spans : List PlainSpan) → fits_sram core around r m spans ≡ true → m < length core.mems
  sram_here around r m spans h = usable_here around m (and_parts _ _ (and_parts _ _ (and_parts _ _ h).0).0).0

  line_here : (around : Around) (r m : ℕ) (spans : List PlainSpan) → fits_line core around r m spans ≡ true → m < length core.mems
  line_here around r m spans h = usable_here around m (and_parts _ _ (and_parts _ _ (and_parts _ _ h).0).0).0

  mutual
    unfolding timed group_runs stage_runs turn_runs moments

    pub node_sound : (node : PlainNode) (k n : ℕ) (st : Standing) (copies : Copies) (h : History) (around : Around) (earlier : List ℕ) → Keeps node k n around earlier → Placed st → Pairs Met (timed core plan delays node k n st copies h).events
        → IsSound core plan delays (schemes_of plan) meets node k n st copies h
    node_sound (inner counters owned ops comb) k n st copies (inner_ran bs counts groups) around earlier w placed met =
        let body : List Stamped = body_events core plan delays (issued_by core ops (node_plan plan k)) copies k (n + counters_size counters) 0 st owned ops (group_values (loops_of in_lanes counters bs)) groups in (
          bounds_look core around n (inside_at st k before []) counters bs (and_parts _ _ (and_parts _ _ (and_parts _ _ w.right).0).0).1,
          record { around = placed; no_stream = no_stream k; no_owner = owns_nothing core k (k + 1) w.own (omega arith) },
          times_right (node_plan plan k) counters owned ops comb n w.kinds w.times,
          met_events body (pairs_split Met (stamped copies 0 (bounds_moments n (inside_at st k before []) counters bs)) body met).1,
        )
    node_sound (outer counters style owned stages) k n st copies (outer_ran bs counts groups) around earlier w placed met =
        let values = group_values (loops_of in_lanes counters bs) in
        let runs = group_runs core plan delays stages k (n + counters_size counters) 0 st owned copies values groups in
        let body : List Stamped = group_events core plan delays (slots_of (node_plan plan k)) runs (node_plan plan k) stages copies owned 0 runs in
        let body_met : Pairs Met body = (pairs_split Met (stamped copies 0 (bounds_moments n (inside_at st k before []) counters bs)) body met).1 in
        let p : OuterPlan (node_plan plan k) (stage_count stages) = outer_plan_of (node_plan plan k) counters style owned stages w.timed.0 (outer_holds (kind_rule core forms meets plan) k n counters style owned stages w.timed.0 w.kinds).0 in
        let below : AllKeep stages (suc k) (n + counters_size counters) (within around counters owned) (earlier ++ owned) = outer_keeps counters style owned stages k n around earlier w in (
          bounds_look core around n (inside_at st k before []) counters bs (and_parts _ _ (and_parts _ _ (and_parts _ _ w.right.0).0).0).1,
          overlaps_precede core plan delays meets k (n + counters_size counters) st counters style owned stages p.slots p.chains (outer_right counters style owned stages k n st around earlier placed w p)
              (stages_planned core forms meets plan stages (suc k) (n + counters_size counters) below.timed below.kinds) copies values groups (once_values counters bs) (met_events body body_met),
          groups_sound stages k (n + counters_size counters) 0 st owned copies values groups (within around counters owned) (earlier ++ owned) below placed
              (table_met (slots_of (node_plan plan k)) runs (node_plan plan k) stages copies owned 0 runs body_met),
        )
    node_sound (fsm start state test body next) k n st copies (fsm_ran first ts last) around earlier w placed met =
        let begin : Run Stamped = kept_run core copies n (inside_at st k before []) start first state (last_word first) in
        let rest : Run Stamped = turn_runs core plan delays start state test body next k n 0 st copies ts last in
        turns_sound start state test body next k n 0 st copies ts last (with_state core around state) (earlier ++ state ∷ []) (body_keeps start state test body next k n around earlier w) placed (met_then begin rest (met_moved 1 (begin ▸ rest).events met)).1
    node_sound (branch test first second) k n st copies (branch_ran es true h) around earlier w placed met =
        let asked : Run Stamped = list_run core copies n (inside_at st k (in_turn 0) []) test es in
        let taken : Run Stamped = timed core plan delays first (suc k) (n + length test) (inside_at st k (in_turn 0) []) copies h in
        node_sound first (suc k) (n + length test) (inside_at st k (in_turn 0) []) copies h around earlier (left_keeps test first second k n around earlier w) (placed_at st k (in_turn 0) [] placed (same_turn 0))
        (met_then asked taken (met_moved 1 (asked ▸ taken).events met)).1
    node_sound (branch test first second) k n st copies (branch_ran es false h) around earlier w placed met =
        let asked : Run Stamped = list_run core copies n (inside_at st k (in_turn 0) []) test es in
        let taken : Run Stamped = timed core plan delays second (suc k + node_count first) (n + (length test + number_count first)) (inside_at st k (in_turn 0) []) copies h in
        node_sound second (suc k + node_count first) (n + (length test + number_count first)) (inside_at st k (in_turn 0) []) copies h around (earlier ++ owned_in first) (right_keeps test first second k n around earlier w)
        (placed_at st k (in_turn 0) [] placed (same_turn 0)) (met_then asked taken (met_moved 1 (asked ▸ taken).events met)).1
    node_sound (load r m spans) k n st copies (moved taken words) around earlier w placed met =
        let q = and_parts _ _ (and_parts _ _ w.right).0 in
        (spans_look core around n st spans taken (and_parts _ _ q.0).1, inside (or_choose (fits_sram core around r m spans) (fits_line core around r m spans) q.1))
      where
        inside : (fits_sram core around r m spans ≡ true) ⊎ (fits_line core around r m spans ≡ true) → m < length core.mems
        inside (inl e) = sram_here around r m spans e
        inside (inr e) = line_here around r m spans e
    node_sound (store r m spans) k n st copies (moved taken words) around earlier w placed met =
        let q = and_parts _ _ (and_parts _ _ w.right).0 in
        (spans_look core around n st spans taken (and_parts _ _ q.0).1, sram_here around r m spans q.1)
    node_sound (sparse kind r m places spans count par) k n st copies h around earlier w placed met = absurd w.timed
    node_sound node k n st copies h around earlier w placed met = tt

    groups_sound : (stages : PlainStages) (k n g : ℕ) (st : Standing) (owned : List ℕ) (copies : Copies) (values : List (List ℤ)) (groups : Groups) (around : Around) (earlier : List ℕ) → AllKeep stages (suc k) n around earlier → Placed st
        → TableMet (group_runs core plan delays stages k n g st owned copies values groups) → AreSound core plan delays (schemes_of plan) meets stages k n g st owned copies values groups
    groups_sound stages k n g st owned copies (v ∷ values) (more_group rs rest) around earlier w placed met = (
      stages_sound stages k n 0 g (suc k) v st (in_copies core plan delays owned g copies) rs around earlier w placed met.0,
      groups_sound stages k n (suc g) st owned copies values rest around earlier w placed met.1,
    )
    groups_sound stages k n g st owned copies [] groups around earlier w placed met = tt
    groups_sound stages k n g st owned copies (v ∷ values) no_group around earlier w placed met = tt

    stages_sound : (stages : PlainStages) (k n s g j : ℕ) (v : List ℤ) (st : Standing) (copies : Copies) (rs : Runs) (around : Around) (earlier : List ℕ) → AllKeep stages j n around earlier → Placed st
        → Each (λ (r : Run Stamped). Pairs Met r.events) (stage_runs core plan delays stages k n s g j v st copies rs) → RunsSound core plan delays (schemes_of plan) meets stages k n s g j v st copies rs
    stages_sound (more_stage first last comb node rest) k n s g j v st copies (more_run h rs) around earlier w placed met = (
      node_sound node j n (inside_at st k (in_group_of g s) v) copies h around earlier (first_keeps first last comb node rest j n around earlier w) (placed_at st k (in_group_of g s) v placed (same_group g s)) met.0,
      stages_sound rest k (n + number_count node) (suc s) g (j + node_count node) v st copies rs around (earlier ++ owned_in node) (rest_keeps first last comb node rest j n around earlier w) placed met.1,
    )
    stages_sound (more_stage first last comb node rest) k n s g j v st copies (masked_run rs) around earlier w placed met =
        stages_sound rest k (n + number_count node) (suc s) g (j + node_count node) v st copies rs around (earlier ++ owned_in node) (rest_keeps first last comb node rest j n around earlier w) placed met.1
    stages_sound (more_stage first last comb node rest) k n s g j v st copies no_run around earlier w placed met = tt
    stages_sound no_stage k n s g j v st copies rs around earlier w placed met = tt

    turns_sound : (start : List PlainOp) (state : ℕ) (test : List PlainOp) (body : PlainNode) (next : List PlainOp) (k n t : ℕ) (st : Standing) (copies : Copies) (ts : Turns) (last : List Entry) (around : Around) (earlier : List ℕ) → Keeps body (suc k) (n + (length start + length test)) around earlier → Placed st
        → Pairs Met (turn_runs core plan delays start state test body next k n t st copies ts last).events → TurnsSound core plan delays (schemes_of plan) meets start test body next k n t st copies ts
    turns_sound start state test body next k n t st copies no_turn last around earlier w placed met = tt
    turns_sound start state test body next k n t st copies (more_turn es h ns rest) last around earlier w placed met =
        let at : Standing = inside_at st k (in_turn t) [] in
        let tested : Run Stamped = list_run core copies (n + length start) at test es in
        let body_run : Run Stamped = timed core plan delays body (suc k) (n + (length start + length test)) at copies h in
        let next_run : Run Stamped = kept_run core copies (n + (length start + (length test + number_count body))) at next ns state (last_word ns) in
        let others : Run Stamped = turn_runs core plan delays start state test body next k n (suc t) st copies rest last in
        let one = met_then body_run (next_run ▸ others) (met_then tested (body_run ▸ next_run ▸ others) met).1 in (
          node_sound body (suc k) (n + (length start + length test)) at copies h around earlier w (placed_at st k (in_turn t) [] placed (same_turn t)) one.0,
          turns_sound start state test body next k n (suc t) st copies rest last around earlier w placed (met_then next_run others one.1).1,
        )
