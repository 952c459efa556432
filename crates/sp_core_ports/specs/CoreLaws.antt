-- That no port of a bank is used twice in one cycle, as statements: of the stages of an outer body, and of a whole core.
use Rattle.std.specs.Prelude.{◌≡◌, ℕ, suc, ◌≤◌, true, ℤ, List, [], length}
use Rattle.sp_words.specs.declared.kind.Style.{Style}
use Rattle.sp_core.specs.declared.access.Meet.{Meet}
use Rattle.sp_core.specs.Events.{Standing, core_moments, events_of}
use Rattle.sp_core.specs.Forms.{PlainForms}
use Rattle.sp_core.specs.History.{History, Groups}
use Rattle.sp_core.specs.Meeting.{are_at_once, is_at_once, are_met}
use Rattle.sp_core.specs.PlainCore.{PlainCounter, PlainStages, PlainCore}
use Rattle.sp_core.specs.Scope.{in_lanes}
use Rattle.sp_plan.specs.PlainPlan.{PlainPlan, node_plan}
use Rattle.sp_plan.specs.Slots.{runs_of, run_at as stage_at, is_once}
use Rattle.sp_time.specs.Beats.{run_at}
use Rattle.sp_time.specs.Lists.{Each, Pairs}
use Rattle.sp_machine.specs.Laws.{told}
use Rattle.sp_machine.specs.Stamps.{Copies}
use Rattle.sp_machine.specs.Timeline.{group_runs, group_events, slots_of, core_timed}
use Rattle.sp_machine.specs.Told.{ArePlanned}
use Rattle.sp_machine.specs.Transfers.{Delays}
use Rattle.sp_overlap.specs.Laws.{IsOuterRight}
use Rattle.sp_overlap.specs.Whole.{HasPlan}
use Rattle.sp_ports.specs.Whole.{InnersShareNone}
use Rattle.sp_core_ports.specs.UsedLaws.{TakeTurns}
use Rattle.sp_core_ports.specs.UsedPorts.{HasDuplicate, UseNoPortTwice}
use Rattle.sp_core_ports.specs.CoreServed.{IsServed, HasDuplicates}

-- in an outer body whose plan is right, and whose runs stand in the meets, two runs of stages that use one port come one after
-- the other: two writes of stages that may be at work at once stand in the meets, and two reads of two stages have two readers
abbrev pub StagesTakeTurns : PlainCore → PlainPlan → Delays → Type 0
StagesTakeTurns core plan delays =
    (meets : List Meet) (k n : ℕ) (st : Standing) (counters : List PlainCounter) (style : Style) (owned : List ℕ) (stages : PlainStages) (slots chains : List ℕ)
    → IsOuterRight core plan meets k n st counters style owned stages slots chains → ArePlanned plan (suc k) stages
    → HasDuplicates core plan → (are_at_once counters style ≡ true → is_at_once core k ≡ true)
    → (copies : Copies) (values : List (List ℤ)) (groups : Groups) → (is_once counters ≡ true → length values ≤ 1)
    → are_met core meets (events_of (told (group_events core plan delays (slots_of (node_plan plan k)) (group_runs core plan delays stages k n 0 st owned copies values groups) (node_plan plan k) stages copies owned 0 (group_runs core plan delays stages k n 0 st owned copies values groups)))) ≡ true
    → ((g s : ℕ) → Each (λ e. IsServed core (stage_at (runs_of n stages) s).until e.moment) (run_at (group_runs core plan delays stages k n 0 st owned copies values groups) g s).events)
    → TakeTurns core plan delays (slots_of (node_plan plan k)) (group_runs core plan delays stages k n 0 st owned copies values groups)

-- by a valid plan each read of a memory with banks has a duplicate of its own reader
abbrev pub ReadsHaveDuplicates : PlainCore → PlainPlan → Delays → Type 0
ReadsHaveDuplicates core plan delays =
    (forms : PlainForms) (meets : List Meet) → HasPlan core forms meets plan → (h : History) → Each (λ s. HasDuplicate core plan s.moment) (core_timed core plan delays h).events

-- by a valid plan, where the events of a run stand in the meets and no run of an inner body shares a port, no port of a bank is
-- used twice in one cycle of the run, other than as one tap
abbrev pub CoresUseNoPortTwice : PlainCore → PlainPlan → Delays → Type 0
CoresUseNoPortTwice core plan delays =
    (forms : PlainForms) (meets : List Meet) → HasPlan core forms meets plan → (h : History)
    → are_met core meets (events_of (core_moments core in_lanes h)) ≡ true
    → InnersShareNone core plan delays forms core.root 0 0 (record { path = []; counters = [] }) (λ m. 0) h
    → Pairs (UseNoPortTwice core plan forms) (core_timed core plan delays h).events
