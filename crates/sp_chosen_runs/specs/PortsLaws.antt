-- What is said of ports in the runs of a core, as statements.
use Rattle.std.specs.Prelude.{◌≡◌, ℕ, true, List, []}
use Rattle.sp_words.specs.Ports.{PlainInput}
use Rattle.sp_core.specs.declared.access.Meet.{Meet}
use Rattle.sp_core.specs.Events.{core_moments, events_of}
use Rattle.sp_core.specs.Forms.{PlainForms}
use Rattle.sp_core.specs.History.{History}
use Rattle.sp_core.specs.Inputs.{InputFits}
use Rattle.sp_core.specs.Meaning.{run_core}
use Rattle.sp_core.specs.Meeting.{are_met}
use Rattle.sp_core.specs.PlainCore.{PlainCore}
use Rattle.sp_core.specs.Scope.{in_lanes}
use Rattle.sp_core.specs.Step.{went}
use Rattle.sp_core.specs.Store.{Store}
use Rattle.sp_plan.specs.PlainPlan.{PlainPlan}
use Rattle.sp_machine.specs.Transfers.{Delays}
use Rattle.sp_overlap.specs.Whole.{HasPlan}
use Rattle.sp_patterns.specs.Patterns.{patterns_of}
use Rattle.sp_forms_hold.specs.GroupsAtForms.{InnersAtForms}
use Rattle.sp_ports.specs.Whole.{InnersShareNone}

-- by a valid plan, where the events of a history stand in the meets and each run of an inner body is at its forms, with one
-- word for each symbol in each of its groups, none of these runs shares a port of a bank, other than as one tap
abbrev pub HistoriesShareNoPort : PlainCore → PlainPlan → Delays → Type 0
HistoriesShareNoPort core plan delays =
    (forms : PlainForms) (meets : List Meet) → HasPlan core forms meets plan → (h : History)
    → are_met core meets (events_of (core_moments core in_lanes h)) ≡ true → InnersAtForms core forms in_lanes core.root 0 0 (record { path = []; counters = [] }) h
    → InnersShareNone core plan delays forms core.root 0 0 (record { path = []; counters = [] }) (λ m. 0) h

-- so it is in each run in lanes of a core whose plan is valid for the core's own forms, from an input that fits
abbrev pub RunsShareNoPort : PlainCore → PlainPlan → Delays → Type 0
RunsShareNoPort core plan delays =
    (meets : List Meet) → HasPlan core (patterns_of core) meets plan → (input : PlainInput) (turns : ℕ) (h : History) (t : Store) → InputFits core input → run_core in_lanes turns core input ≡ went h t
    → are_met core meets (events_of (core_moments core in_lanes h)) ≡ true → InnersShareNone core plan delays (patterns_of core) core.root 0 0 (record { path = []; counters = [] }) (λ m. 0) h
