-- By a valid plan of a core no run of an inner body, in a run of the core, shares a port of a bank.
use Rattle.std.specs.Prelude.{◌≡◌, ℕ, suc, ◌+◌, true, false, ℤ, List, [], ◌∷◌, length}
use Rattle.sp_core.specs.declared.access.Meet.{Meet}
use Rattle.sp_core.specs.Events.{At, Standing, inside_at, in_group_of, in_turn, core_moments, events_of}
use Rattle.sp_core.specs.Forms.{PlainForms}
use Rattle.sp_core.specs.History.{History, Groups, Runs, Turns, inner_ran, outer_ran, fsm_ran, branch_ran, more_group, masked_run, more_run, no_turn, more_turn}
use Rattle.sp_core.specs.Meeting.{are_met}
use Rattle.sp_core.specs.Numbering.{counters_size, node_count, number_count}
use Rattle.sp_core.specs.PlainCore.{PlainOp, PlainNode, PlainStages, inner, outer, fsm, branch, more_stage, PlainCore}
use Rattle.sp_core.specs.Scope.{in_lanes, loops_of, group_values}
use Rattle.sp_plan.specs.PlainPlan.{PlainPlan}
use Rattle.sp_plan.specs.Validity.{schemes_of}
use Rattle.sp_time.specs.Lists.{Each, Pairs}
use Rattle.sp_machine.specs.Stamps.{Copies}
use Rattle.sp_machine.specs.Timeline.{timed, in_copies}
use Rattle.sp_machine.specs.Transfers.{Delays}
use Rattle.sp_overlap.specs.Whole.{HasPlan}
use Rattle.sp_ports.specs.Banks.{IsAtOwnForms, ShareNoPort}

module _ (core : PlainCore) (plan : PlainPlan) (delays : Delays) (forms : PlainForms) where
  -- each run of an inner body in a run of a node
  abbrev mutual
    pub InnersShareNone : PlainNode → (node n : ℕ) → Standing → Copies → History → Type 0
    InnersShareNone (inner counters owned ops comb) k n st copies (inner_ran bs counts groups) =
        Pairs (ShareNoPort core forms (schemes_of plan)) (timed core plan delays (inner counters owned ops comb) k n st copies (inner_ran bs counts groups)).events
    InnersShareNone (outer counters style owned stages) k n st copies (outer_ran bs counts groups) =
        GroupsShareNone stages k (n + counters_size counters) 0 st owned copies (group_values (loops_of in_lanes counters bs)) groups
    InnersShareNone (fsm start state test body next) k n st copies (fsm_ran first ts last) = TurnsShareNone start test body next k n 0 st copies ts
    InnersShareNone (branch test first second) k n st copies (branch_ran es true h) = InnersShareNone first (suc k) (n + length test) (inside_at st k (in_turn 0) []) copies h
    InnersShareNone (branch test first second) k n st copies (branch_ran es false h) = InnersShareNone second (suc k + node_count first) (n + (length test + number_count first)) (inside_at st k (in_turn 0) []) copies h
    InnersShareNone _ k n st copies h = Unit {0}

    pub GroupsShareNone : PlainStages → (node n g : ℕ) → Standing → (owned : List ℕ) → Copies → List (List ℤ) → Groups → Type 0
    GroupsShareNone stages k n g st owned copies (v ∷ values) (more_group rs rest) =
        StagesShareNone stages k n 0 g (suc k) v st (in_copies core plan delays owned g copies) rs × GroupsShareNone stages k n (suc g) st owned copies values rest
    GroupsShareNone stages k n g st owned copies _ _ = Unit {0}

    pub StagesShareNone : PlainStages → (node n s g j : ℕ) → List ℤ → Standing → Copies → Runs → Type 0
    StagesShareNone (more_stage first last comb node rest) k n s g j v st copies (more_run h hs) =
        InnersShareNone node j n (inside_at st k (in_group_of g s) v) copies h × StagesShareNone rest k (n + number_count node) (suc s) g (j + node_count node) v st copies hs
    StagesShareNone (more_stage first last comb node rest) k n s g j v st copies (masked_run hs) =
        StagesShareNone rest k (n + number_count node) (suc s) g (j + node_count node) v st copies hs
    StagesShareNone _ k n s g j v st copies _ = Unit {0}

    pub TurnsShareNone : (start test : List PlainOp) → PlainNode → (next : List PlainOp) → (node n t : ℕ) → Standing → Copies → Turns → Type 0
    TurnsShareNone start test body next k n t st copies no_turn = Unit {0}
    TurnsShareNone start test body next k n t st copies (more_turn es h ns rest) =
        InnersShareNone body (suc k) (n + (length start + length test)) (inside_at st k (in_turn t) []) copies h × TurnsShareNone start test body next k n (suc t) st copies rest

-- where the events of a run stand in the meets, and the accesses of its operations are at their forms, symbols with one word in each group
abbrev pub PlannedInnersShareNoPort : PlainCore → PlainPlan → Delays → Type 0
PlannedInnersShareNoPort core plan delays =
    (forms : PlainForms) (meets : List Meet) (symbols : List At → ℕ → ℤ) → HasPlan core forms meets plan → (h : History)
    → are_met core meets (events_of (core_moments core in_lanes h)) ≡ true → Each (IsAtOwnForms core forms symbols) (core_moments core in_lanes h)
    → InnersShareNone core plan delays forms core.root 0 0 (record { path = []; counters = [] }) (λ m. 0) h
