-- Laws of timelines, as statements.
use Rattle.std.specs.Prelude.{◌≡◌, ℕ, suc, ◌+◌, ◌<◌, ◌≤◌, ℤ, List, map}
use Rattle.sp_core.specs.Cost.{cost, core_cost}
use Rattle.sp_core.specs.Events.{At, Standing, Moment, moments}
use Rattle.sp_core.specs.History.{History, Groups}
use Rattle.sp_core.specs.PlainCore.{PlainNode, PlainStages, PlainCore}
use Rattle.sp_core.specs.Scope.{in_lanes, Scope}
use Rattle.sp_core.specs.Sequential.{run}
use Rattle.sp_core.specs.Shape.{shape_of}
use Rattle.sp_core.specs.Step.{went}
use Rattle.sp_core.specs.Store.{Store}
use Rattle.sp_plan.specs.PlainPlan.{PlainPlan, node_plan}
use Rattle.sp_plan.specs.Validity.{stage_count}
use Rattle.sp_time.specs.Beats.{Slot, slot_at, run_at, took_at, first_cycle, starts}
use Rattle.sp_time.specs.Lists.{Each}
use Rattle.sp_machine.specs.Stamps.{Stamped, Copies, later}
use Rattle.sp_machine.specs.Timeline.{timed, group_runs, slots_of, core_timed}
use Rattle.sp_machine.specs.Told.{plan_timings, HasSlots, IsPlanned, ArePlanned, IsCounted, IsKept, AreKept}
use Rattle.sp_machine.specs.Transfers.{Delays}

-- what is told, without its cycles and copies
abbrev pub told : List Stamped → List Moment
told events = map (λ s. s.moment) events

-- a timeline tells what happens in the run, all of it and nothing else, in the order of the text
abbrev pub TellsAll : PlainCore → PlainPlan → Delays → PlainNode → Type 0
TellsAll core plan delays node =
    (k n : ℕ) (st : Standing) (copies : Copies) (h : History) → told (timed core plan delays node k n st copies h).events ≡ moments core in_lanes node k n st h

-- where no transfer waits longer than a delay, a run takes no longer than its cost by the plan's numbers
abbrev pub KeepsToCost : PlainCore → PlainPlan → Delays → (delay : ℕ) → PlainNode → Type 0
KeepsToCost core plan delays d node =
    ((k : ℕ) (path : List At) (ask : ℕ) → delays k path ask ≤ d) → (k n : ℕ) (st : Standing) (copies : Copies) (h : History) → IsPlanned plan k node → IsCounted node h
    → (timed core plan delays node k n st copies h).took ≤ cost core (plan_timings plan) d node k (shape_of node h)

-- the history of a run has no more groups than its counts say
abbrev pub GivesCounted : PlainCore → PlainNode → Type 0
GivesCounted core node = (turns : ℕ) (scope : Scope) (s t : Store) (h : History) → run core in_lanes turns node scope s ≡ went h t → IsCounted node h

-- a run of the whole core ends within its cost, which is 2 more than its root's, where no transfer waits longer than a delay
abbrev pub EndsInCost : PlainCore → PlainPlan → Delays → (delay : ℕ) → Type 0
EndsInCost core plan delays d =
    ((k : ℕ) (path : List At) (ask : ℕ) → delays k path ask ≤ d) → IsPlanned plan 0 core.root
    → (turns : ℕ) (scope : Scope) (s t : Store) (h : History) → run core in_lanes turns core.root scope s ≡ went h t
    → (core_timed core plan delays h).took + 2 ≤ core_cost core (plan_timings plan) d (shape_of core.root h)

-- what happens in a run happens within it, by a plan in which no operation begins later than its body's latency
abbrev pub HappensWithin : PlainCore → PlainPlan → Delays → PlainNode → Type 0
HappensWithin core plan delays node =
    (k n : ℕ) (st : Standing) (copies : Copies) (h : History) → IsPlanned plan k node → IsKept plan k node
    → Each (λ e. e.cycle < (timed core plan delays node k n st copies h).took) (timed core plan delays node k n st copies h).events

-- after the first cycle of a beat, and before that of the next one
abbrev pub IsInBeat : List Slot → (took : (group stage : ℕ) → ℕ) → (beat : ℕ) → Stamped → Type 0
IsInBeat slots took b e = (first_cycle slots took b < e.cycle) × (e.cycle < first_cycle slots took (suc b))

-- in an outer body, whose runs in each group are these, a stage does all of a group in the beat that is so many after the
-- group as its slot says
abbrev pub WorksInBeats : PlainCore → PlainPlan → Delays → PlainStages → Type 0
WorksInBeats core plan delays stages =
    (k n : ℕ) (st : Standing) (owned : List ℕ) (copies : Copies) (values : List (List ℤ)) (groups : Groups)
    → HasSlots (node_plan plan k) (stage_count stages) → ArePlanned plan (suc k) stages → AreKept plan (suc k) stages
    → (group stage : ℕ) → stage < stage_count stages
    → Each (IsInBeat (slots_of (node_plan plan k)) (took_at (group_runs core plan delays stages k n 0 st owned copies values groups)) (group + (slot_at (slots_of (node_plan plan k)) stage).slot))
    (later (starts (slots_of (node_plan plan k)) (took_at (group_runs core plan delays stages k n 0 st owned copies values groups)) group stage)
    (run_at (group_runs core plan delays stages k n 0 st owned copies values groups) group stage).events)
