-- Runs by the plan that is chosen for a core, by the core's own forms and meets, as a statement.
use Rattle.std.specs.Prelude.{◌≡◌, ℕ, ◌+◌, ◌≤◌, List, Some}
use Rattle.sp_words.specs.Ports.{PlainInput}
use Rattle.sp_core.specs.declared.access.Meet.{Meet}
use Rattle.sp_core.specs.Events.{At}
use Rattle.sp_core.specs.History.{History}
use Rattle.sp_core.specs.Inputs.{InputFits}
use Rattle.sp_core.specs.Invariant.{IsCore}
use Rattle.sp_core.specs.Latency.{limit}
use Rattle.sp_core.specs.Meaning.{run_core}
use Rattle.sp_core.specs.PlainCore.{PlainCore}
use Rattle.sp_core.specs.Scope.{in_lanes}
use Rattle.sp_core.specs.Shape.{shape_of}
use Rattle.sp_core.specs.Step.{went}
use Rattle.sp_core.specs.Store.{Store}
use Rattle.sp_plan.specs.PlainPlan.{PlainPlan}
use Rattle.sp_plans.specs.Planned.{IsPlanned}
use Rattle.sp_time.specs.Lists.{Each}
use Rattle.sp_machine.specs.Timeline.{core_timed}
use Rattle.sp_machine.specs.Transfers.{Delays}
use Rattle.sp_within.specs.Rounds.{rounds}
use Rattle.sp_overlap.specs.Whole.{IsTimed, IsByLane}
use Rattle.sp_contents.specs.Found.{first_contents, IsFound}
use Rattle.sp_patterns.specs.Patterns.{patterns_of}
use Rattle.sp_meets.specs.Meets.{IsMeetsOf}
use Rattle.sp_core_ports.specs.UsedPorts.{Port, port_of}
use Rattle.sp_core_ports.specs.BanksLaws.{IsThere}
use Rattle.sp_chosen_runs.specs.OwnLaws.{SharesNoPort}
use Rattle.sp_chosen_runs.specs.InsideLaws.{IsInside}

-- a core that keeps its rules, without `Stream` blocks and sparse transfers, whose loops use their memories lane by lane, with
-- the plan that is chosen for its own forms and meets
pub record HasChosen (core : PlainCore) (meets : List Meet) (plan : PlainPlan) : Type 0 where
  pub is_core : IsCore core
  pub is_timed : IsTimed core.root
  pub by_lane : IsByLane core core.root
  pub meets_are : IsMeetsOf core (patterns_of core) meets
  pub is_chosen : IsPlanned core (patterns_of core) meets plan

-- a run with this history, which leaves this store, where no transfer waits longer than a delay
pub record RunsWell (core : PlainCore) (plan : PlainPlan) (delays : Delays) (delay : ℕ) (input : PlainInput) (h : History) (t : Store) : Type 0 where
  -- each moment finds in its own cycle what it finds in the order of the text, and in the end DRAMs and outputs hold what the
  -- run leaves
  pub found : IsFound core plan delays h t (first_contents core input)
  -- no port is used twice in one cycle, other than as one tap, and each is one that the plan has
  pub ports : SharesNoPort core plan delays (patterns_of core) h
  pub there : Each (λ s. (p : Port) → port_of core plan s ≡ Some p → IsThere plan p) (core_timed core plan delays h).events
  -- each read and each write is at an element of its memory
  pub inside : Each (λ s. IsInside core s.moment) (core_timed core plan delays h).events
  -- and the run ends within the limit of as many turns as it goes around
  pub ends : (n : ℕ) → rounds core.root (shape_of core.root h) ≤ n → (core_timed core plan delays h).took + 2 ≤ limit n delay core

-- so is each run in lanes of the core from an input that fits
abbrev pub ChosenPlansRun : PlainCore → PlainPlan → Delays → (delay : ℕ) → Type 0
ChosenPlansRun core plan delays delay =
    (meets : List Meet) → HasChosen core meets plan → ((k : ℕ) (path : List At) (ask : ℕ) → delays k path ask ≤ delay)
    → (input : PlainInput) (turns : ℕ) (h : History) (t : Store) → InputFits core input → run_core in_lanes turns core input ≡ went h t
    → RunsWell core plan delays delay input h t
