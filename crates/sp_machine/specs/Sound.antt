-- When a run comes in order: what each part of the tree asks of the plan and of what happens in the run.
use Rattle.std.specs.Prelude.{◌≡◌, ℕ, suc, ◌+◌, ◌<◌, true, false, ℤ, List, [], ◌∷◌, length, Option}
use Rattle.sp_bank.specs.Banking.{Banking}
use Rattle.sp_core.specs.declared.access.Meet.{Meet}
use Rattle.sp_core.specs.Events.{Standing, inside_at, before, in_group_of, in_turn, Moment, events_of, bounds_moments, spans_moments}
use Rattle.sp_core.specs.History.{History, Groups, Runs, Turns, inner_ran, outer_ran, fsm_ran, branch_ran, moved, more_group, masked_run, more_run, no_turn, more_turn}
use Rattle.sp_core.specs.Meeting.{are_met}
use Rattle.sp_core.specs.Numbering.{counters_size, node_count, number_count}
use Rattle.sp_core.specs.PlainCore.{PlainOp, PlainNode, PlainStages, inner, outer, fsm, branch, load, store, more_stage, PlainCore}
use Rattle.sp_core.specs.Scope.{in_lanes, loops_of, group_values}
use Rattle.sp_plan.specs.Bodies.{are_times_right}
use Rattle.sp_plan.specs.PlainPlan.{PlainNodePlan, inner_plan, PlainPlan, node_plan}
use Rattle.sp_time.specs.Lists.{Each, Pairs}
use Rattle.sp_machine.specs.InOrder.{does_change, AreInOrder, IsPlaced, RunsPrecede}
use Rattle.sp_machine.specs.Laws.{told}
use Rattle.sp_machine.specs.Stamps.{Copies}
use Rattle.sp_machine.specs.Timeline.{timed, issued_by, body_events, group_runs, in_copies, slots_of}
use Rattle.sp_machine.specs.Told.{IsPlanned, IsKept}
use Rattle.sp_machine.specs.Transfers.{Delays}

-- bounds and slices change nothing
abbrev pub AreLooks : List Moment → Type 0
AreLooks moments = Each (λ m. does_change m ≡ false) moments

module _ (core : PlainCore) (plan : PlainPlan) (delays : Delays) (schemes : List (Option Banking)) (meets : List Meet) where
  -- the times of an inner body are right
  abbrev pub AreTimed : (number : ℕ) → List PlainOp → PlainNodePlan → Type 0
  AreTimed n ops (inner_plan times ii latency serial) = are_times_right core schemes meets n false ops times ii latency serial ≡ true
  AreTimed n ops _ = ⊥

  abbrev mutual
    pub IsSound : PlainNode → (node n : ℕ) → Standing → Copies → History → Type 0
    IsSound (inner counters owned ops comb) k n st copies (inner_ran bs counts groups) =
        AreLooks (bounds_moments n (inside_at st k before []) counters bs) × IsPlaced core k st × AreTimed (n + counters_size counters) ops (node_plan plan k)
        × (are_met core meets (events_of (told (body_events core plan delays (issued_by core ops (node_plan plan k)) copies k (n + counters_size counters) 0 st owned ops (group_values (loops_of in_lanes counters bs)) groups))) ≡ true)
    IsSound (outer counters style owned stages) k n st copies (outer_ran bs counts groups) =
        AreLooks (bounds_moments n (inside_at st k before []) counters bs)
        × RunsPrecede core plan delays (slots_of (node_plan plan k)) (group_runs core plan delays stages k (n + counters_size counters) 0 st owned copies (group_values (loops_of in_lanes counters bs)) groups) (node_plan plan k) stages copies owned
        × AreSound stages k (n + counters_size counters) 0 st owned copies (group_values (loops_of in_lanes counters bs)) groups
    IsSound (fsm start state test body next) k n st copies (fsm_ran first ts last) = TurnsSound start test body next k n 0 st copies ts
    IsSound (branch test first second) k n st copies (branch_ran es true h) = IsSound first (suc k) (n + length test) (inside_at st k (in_turn 0) []) copies h
    IsSound (branch test first second) k n st copies (branch_ran es false h) = IsSound second (suc k + node_count first) (n + (length test + number_count first)) (inside_at st k (in_turn 0) []) copies h
    IsSound (load r m spans) k n st copies (moved taken words) = AreLooks (spans_moments n st spans taken) × (m < length core.mems)
    IsSound (store r m spans) k n st copies (moved taken words) = AreLooks (spans_moments n st spans taken) × (m < length core.mems)
    IsSound _ k n st copies h = Unit {0}

    pub AreSound : PlainStages → (node n g : ℕ) → Standing → (owned : List ℕ) → Copies → List (List ℤ) → Groups → Type 0
    AreSound stages k n g st owned copies (v ∷ values) (more_group rs rest) =
        RunsSound stages k n 0 g (suc k) v st (in_copies core plan delays owned g copies) rs × AreSound stages k n (suc g) st owned copies values rest
    AreSound stages k n g st owned copies _ _ = Unit {0}

    pub RunsSound : PlainStages → (node n s g j : ℕ) → List ℤ → Standing → Copies → Runs → Type 0
    RunsSound (more_stage first last comb node rest) k n s g j v st copies (more_run h hs) =
        IsSound node j n (inside_at st k (in_group_of g s) v) copies h × RunsSound rest k (n + number_count node) (suc s) g (j + node_count node) v st copies hs
    RunsSound (more_stage first last comb node rest) k n s g j v st copies (masked_run hs) =
        RunsSound rest k (n + number_count node) (suc s) g (j + node_count node) v st copies hs
    RunsSound _ k n s g j v st copies _ = Unit {0}

    pub TurnsSound : (start test : List PlainOp) → PlainNode → (next : List PlainOp) → (node n t : ℕ) → Standing → Copies → Turns → Type 0
    TurnsSound start test body next k n t st copies no_turn = Unit {0}
    TurnsSound start test body next k n t st copies (more_turn es h ns rest) =
        IsSound body (suc k) (n + (length start + length test)) (inside_at st k (in_turn t) []) copies h × TurnsSound start test body next k n (suc t) st copies rest

-- what happens in a run comes in order, where each part of it is sound
abbrev pub RunsInOrder : PlainCore → PlainPlan → Delays → PlainNode → Type 0
RunsInOrder core plan delays node =
    (schemes : List (Option Banking)) (meets : List Meet) (k n : ℕ) (st : Standing) (copies : Copies) (h : History)
    → IsPlanned plan k node → IsKept plan k node → IsSound core plan delays schemes meets node k n st copies h
    → Pairs (AreInOrder core) (timed core plan delays node k n st copies h).events
