-- That the plan which is chosen for a core is brisk, and keeps to the limit, as statements.
use Rattle.std.specs.Prelude.{◌≡◌, ℕ, ◌+◌, ◌≤◌, List}
use Rattle.sp_core.specs.declared.access.Meet.{Meet}
use Rattle.sp_core.specs.Cost.{core_cost}
use Rattle.sp_core.specs.Events.{At}
use Rattle.sp_core.specs.Forms.{PlainForms}
use Rattle.sp_core.specs.History.{History}
use Rattle.sp_core.specs.Invariant.{IsCore}
use Rattle.sp_core.specs.Latency.{limit}
use Rattle.sp_core.specs.PlainCore.{PlainCore}
use Rattle.sp_core.specs.Scope.{in_lanes, Scope}
use Rattle.sp_core.specs.Sequential.{run}
use Rattle.sp_core.specs.Shape.{shape_of}
use Rattle.sp_core.specs.Step.{went}
use Rattle.sp_core.specs.Store.{Store}
use Rattle.sp_plan.specs.PlainPlan.{PlainPlan}
use Rattle.sp_plans.specs.Planned.{IsPlanned}
use Rattle.sp_machine.specs.Timeline.{core_timed}
use Rattle.sp_machine.specs.Told.{plan_timings}
use Rattle.sp_machine.specs.Transfers.{Delays}
use Rattle.sp_overlap.specs.Whole.{IsTimed}
use Rattle.sp_within.specs.Rounds.{rounds}
use Rattle.sp_brisk.specs.RunsBrisk.{IsBriskPlan}

abbrev pub ChosenPlansAreBrisk : Type 0
ChosenPlansAreBrisk = (core : PlainCore) (forms : PlainForms) (meets : List Meet) (plan : PlainPlan) → IsCore core → IsPlanned core forms meets plan → IsBriskPlan core plan

-- by a chosen plan, for as many turns as a run goes around: its cost is within the limit, and where no transfer waits longer
-- than a delay, a run of a core without `Stream` blocks and sparse transfers ends within it
pub record KeepsToLimit (core : PlainCore) (plan : PlainPlan) (delays : Delays) (d : ℕ) : Type 0 where
  pub costs : (h : History) (n : ℕ) → rounds core.root (shape_of core.root h) ≤ n → core_cost core (plan_timings plan) d (shape_of core.root h) ≤ limit n d core
  pub ends : ((k : ℕ) (path : List At) (ask : ℕ) → delays k path ask ≤ d) → IsTimed core.root
      → (turns : ℕ) (scope : Scope) (s t : Store) (h : History) → run core in_lanes turns core.root scope s ≡ went h t
      → (n : ℕ) → rounds core.root (shape_of core.root h) ≤ n → (core_timed core plan delays h).took + 2 ≤ limit n d core

abbrev pub ChosenPlansKeepToLimit : PlainCore → PlainPlan → Delays → (delay : ℕ) → Type 0
ChosenPlansKeepToLimit core plan delays d = (forms : PlainForms) (meets : List Meet) → IsCore core → IsPlanned core forms meets plan → KeepsToLimit core plan delays d
