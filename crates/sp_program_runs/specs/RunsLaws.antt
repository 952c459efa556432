-- Programs and the timelines of their plans, as a statement.
use Rattle.std.specs.Prelude.{◌≡◌, ℕ, ◌+◌, ◌≤◌, List}
use Rattle.sp_words.specs.Ports.{PlainInput}
use Rattle.sp_tree.specs.Meaning as program
use Rattle.sp_tree.specs.Meaning.{seq}
use Rattle.sp_tree.specs.PlainProgram.{PlainProgram}
use Rattle.sp_tree.specs.Shape.{Shape}
use Rattle.sp_core.specs.declared.access.Meet.{Meet}
use Rattle.sp_core.specs.Events.{At}
use Rattle.sp_core.specs.History.{History}
use Rattle.sp_core.specs.Inputs.{InputFits}
use Rattle.sp_core.specs.Latency.{limit}
use Rattle.sp_core.specs.Meaning.{run_core, outcome, ended}
use Rattle.sp_core.specs.PlainCore.{PlainCore}
use Rattle.sp_core.specs.Scope.{in_lanes}
use Rattle.sp_core.specs.Step.{went}
use Rattle.sp_core.specs.Store.{Store}
use Rattle.sp_sugar.specs.Core.{core_of}
use Rattle.sp_lanes.specs.Unrolled.{unrolled}
use Rattle.sp_plan.specs.PlainPlan.{PlainPlan}
use Rattle.sp_plans.specs.Planned.{IsPlanned}
use Rattle.sp_machine.specs.Timeline.{core_timed}
use Rattle.sp_machine.specs.Transfers.{Delays}
use Rattle.sp_patterns.specs.Patterns.{patterns_of}
use Rattle.sp_meets.specs.Meets.{IsMeetsOf}
use Rattle.sp_lane_programs.specs.Timed.{BodyTimed}
use Rattle.sp_overlap.specs.Whole.{IsTimed}
use Rattle.sp_chosen_runs.specs.ChosenLaws.{RunsWell}
use Rattle.sp_narrow.specs.Narrow.{narrow}

-- the core of a program, its lanes one after the other
abbrev pub laned : PlainProgram → PlainCore
laned p = unrolled (core_of p)

-- a program without proper `Stream` blocks, gathers, scatters and wide transfers, with the plan that is chosen for it
pub record HasPlan (p : PlainProgram) (meets : List Meet) (plan : PlainPlan) : Type 0 where
  pub is_timed : BodyTimed p.mems p.body
  pub meets_are : IsMeetsOf (laned p) (patterns_of (laned p)) meets
  pub is_chosen : IsPlanned (laned p) (patterns_of (laned p)) meets plan

-- a program whose core in lanes has no stream block and no gather, scatter or wide transfer, with the plan that is chosen for it
pub record HasLanedPlan (p : PlainProgram) (meets : List Meet) (plan : PlainPlan) : Type 0 where
  pub is_timed : IsTimed (laned p).root
  pub meets_are : IsMeetsOf (laned p) (patterns_of (laned p)) meets
  pub is_chosen : IsPlanned (laned p) (patterns_of (laned p)) meets plan

-- a run of its core in lanes: with the program's words of outputs and DRAMs; by the plan each moment finds in its own cycle what
-- it finds in the order of the text, no port is used twice in one cycle; and it ends within the limit of the program's turns
pub record Runs (p : PlainProgram) (plan : PlainPlan) (delays : Delays) (delay : ℕ) (input : PlainInput) (n turns : ℕ) (outs : List ℕ) (drams : List (List ℕ)) : Type 0 where
  pub history : History
  pub left : Store
  pub ran : run_core in_lanes n (laned p) input ≡ went history left
  pub words : outcome (laned p) (went history left) ≡ ended outs drams history
  pub well : RunsWell (laned p) plan delays delay input history left
  pub ends : (m : ℕ) → turns ≤ m → (core_timed (laned p) plan delays history).took + 2 ≤ limit m delay (laned p)

-- where the program ends there is such a run, whatever the delays of its transfers are up to a greatest one
abbrev pub ProgramRuns : PlainProgram → PlainPlan → Delays → (delay : ℕ) → Type 0
ProgramRuns p plan delays delay =
    (meets : List Meet) → HasPlan p meets plan → ((k : ℕ) (path : List At) (ask : ℕ) → delays k path ask ≤ delay)
    → (n : ℕ) (input : PlainInput) → InputFits (core_of p) input → (outs : List ℕ) (drams : List (List ℕ)) (turns : ℕ) (shape : Shape) → seq n p input ≡ program.ended outs drams turns shape
    → Runs p plan delays delay input n turns outs drams

-- so of a program of which the core in lanes is known to be of that kind
abbrev pub LanedProgramRuns : PlainProgram → PlainPlan → Delays → (delay : ℕ) → Type 0
LanedProgramRuns p plan delays delay =
    (meets : List Meet) → HasLanedPlan p meets plan → ((k : ℕ) (path : List At) (ask : ℕ) → delays k path ask ≤ delay)
    → (n : ℕ) (input : PlainInput) → InputFits (core_of p) input → (outs : List ℕ) (drams : List (List ℕ)) (turns : ℕ) (shape : Shape) → seq n p input ≡ program.ended outs drams turns shape
    → Runs p plan delays delay input n turns outs drams

-- the same core where each load and each store has one lane
abbrev pub narrowed : PlainProgram → PlainCore
narrowed p = narrow (laned p)

-- a program whose core is then without stream blocks, gathers and scatters, with the plan that is chosen for it
pub record HasNarrowPlan (p : PlainProgram) (meets : List Meet) (plan : PlainPlan) : Type 0 where
  pub is_timed : IsTimed (narrowed p).root
  pub meets_are : IsMeetsOf (narrowed p) (patterns_of (narrowed p)) meets
  pub is_chosen : IsPlanned (narrowed p) (patterns_of (narrowed p)) meets plan

-- a run of that core, as above, which ends within the limit of the core in lanes
pub record NarrowRuns (p : PlainProgram) (plan : PlainPlan) (delays : Delays) (delay : ℕ) (input : PlainInput) (n turns : ℕ) (outs : List ℕ) (drams : List (List ℕ)) : Type 0 where
  pub history : History
  pub left : Store
  pub ran : run_core in_lanes n (narrowed p) input ≡ went history left
  pub words : outcome (narrowed p) (went history left) ≡ ended outs drams history
  pub well : RunsWell (narrowed p) plan delays delay input history left
  pub ends : (m : ℕ) → turns ≤ m → (core_timed (narrowed p) plan delays history).took + 2 ≤ limit m delay (laned p)

abbrev pub NarrowProgramRuns : PlainProgram → PlainPlan → Delays → (delay : ℕ) → Type 0
NarrowProgramRuns p plan delays delay =
    (meets : List Meet) → HasNarrowPlan p meets plan → ((k : ℕ) (path : List At) (ask : ℕ) → delays k path ask ≤ delay)
    → (n : ℕ) (input : PlainInput) → InputFits (core_of p) input → (outs : List ℕ) (drams : List (List ℕ)) (turns : ℕ) (shape : Shape) → seq n p input ≡ program.ended outs drams turns shape
    → NarrowRuns p plan delays delay input n turns outs drams
