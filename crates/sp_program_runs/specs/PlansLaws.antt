-- Laws of the plans of programs, as statements.
use Rattle.std.specs.Prelude.{◌≡◌, ◌≤◌, ◌+◌, ℕ, List, []}
use Rattle.sp_words.specs.Ports.{PlainInput}
use Rattle.sp_tree.specs.PlainProgram.{PlainProgram}
use Rattle.sp_core.specs.declared.access.Meet.{Meet}
use Rattle.sp_core.specs.Events.{At}
use Rattle.sp_core.specs.Forms.{PlainForms}
use Rattle.sp_core.specs.History.{History}
use Rattle.sp_core.specs.Inputs.{InputFits}
use Rattle.sp_core.specs.Meaning.{run_core, outcome, meaning, ended as ended_with}
use Rattle.sp_core.specs.Latency.{limit}
use Rattle.sp_core.specs.PlainCore.{PlainCore}
use Rattle.sp_core.specs.Scope.{plainly, in_lanes}
use Rattle.sp_core.specs.Shape.{shape_of}
use Rattle.sp_core.specs.Step.{went}
use Rattle.sp_core.specs.Store.{Store}
use Rattle.sp_within.specs.Rounds.{rounds}
use Rattle.sp_sugar.specs.Core.{core_of}
use Rattle.sp_lanes.specs.Unrolled.{unrolled}
use Rattle.sp_plan.specs.PlainPlan.{PlainPlan}
use Rattle.sp_plan.specs.Validity.{IsValid}
use Rattle.sp_machine.specs.Timeline.{core_timed}
use Rattle.sp_machine.specs.Transfers.{Delays}
use Rattle.sp_brisk.specs.RunsBrisk.{IsBriskPlan}
use Rattle.sp_contents.specs.Found.{first_contents, IsFound}
use Rattle.sp_overlap.specs.Whole.{IsTimed, HasPlan}
use Rattle.sp_patterns.specs.Patterns.{patterns_of}
use Rattle.sp_ports.specs.Whole.{InnersShareNone}
use Rattle.sp_meets.specs.Meets.{IsMeetsOf}

-- the core of a program in lanes, and the forms of its accesses
abbrev pub laned : PlainProgram → PlainCore
laned p = unrolled (core_of p)

abbrev pub own_forms : PlainProgram → PlainForms
own_forms p = patterns_of (laned p)

-- a plan that is valid for these meets, where no stream block and no gather, scatter or wide transfer stands in the core
abbrev pub ProgramHasPlan : PlainProgram → Type 0
ProgramHasPlan p = (meets : List Meet) (plan : PlainPlan) → IsValid (laned p) (own_forms p) meets plan → IsTimed (laned p).root → HasPlan (laned p) (own_forms p) meets plan

-- what it makes of a run of the core in lanes: each moment finds in its own cycle what it finds in the order of the text, and no run
-- of an inner body shares a port of a bank
abbrev pub IsSoundRun : PlainProgram → PlainPlan → Delays → PlainInput → History → Store → Type 0
IsSoundRun p plan delays input h t =
    IsFound (laned p) plan delays h t (first_contents (laned p) input) × InnersShareNone (laned p) plan delays (own_forms p) (laned p).root 0 0 (record { path = []; counters = [] }) (λ m. 0) h

-- the plan is valid for all meets of the core
pub record IsPlanFor (p : PlainProgram) (plan : PlainPlan) : Type 0 where
  pub meets : List Meet
  pub are_meets : IsMeetsOf (laned p) (own_forms p) meets
  pub valid : IsValid (laned p) (own_forms p) meets plan
  pub timed : IsTimed (laned p).root

-- so is each of its runs from an input that fits
abbrev pub ProgramPlanIsSound : PlainProgram → PlainPlan → Delays → Type 0
ProgramPlanIsSound p plan delays =
    IsPlanFor p plan → (input : PlainInput) (turns : ℕ) (h : History) (t : Store) → InputFits (laned p) input → run_core in_lanes turns (laned p) input ≡ went h t → IsSoundRun p plan delays input h t

-- in lanes, a run of the core with these words of outputs and of DRAMs that the plan makes sound, and that goes around no oftener
-- than the core
pub record RunsSoundly (p : PlainProgram) (plan : PlainPlan) (delays : Delays) (input : PlainInput) (turns : ℕ) (outs : List ℕ) (drams : List (List ℕ)) (h : History) : Type 0 where
  pub history : History
  pub ended : Store
  pub ran : run_core in_lanes turns (laned p) input ≡ went history ended
  pub words : outcome (laned p) (went history ended) ≡ ended_with outs drams history
  pub sound : IsSoundRun p plan delays input history ended
  pub no_oftener : rounds (laned p).root (shape_of (laned p).root history) ≤ rounds (core_of p).root (shape_of (core_of p).root h)

-- where the core ends there is such a run
abbrev pub ProgramRunsInTime : PlainProgram → PlainPlan → Delays → Type 0
ProgramRunsInTime p plan delays =
    IsPlanFor p plan → (input : PlainInput) (turns : ℕ) → InputFits (core_of p) input
    → (outs : List ℕ) (drams : List (List ℕ)) (h : History) → meaning plainly turns (core_of p) input ≡ ended_with outs drams h → RunsSoundly p plan delays input turns outs drams h

-- and by a brisk plan it ends within the limit of as many turns as the core goes around, where no transfer waits longer than a delay
abbrev pub ProgramEndsWithin : PlainProgram → PlainPlan → Delays → (delay : ℕ) → Type 0
ProgramEndsWithin p plan delays d =
    ((k : ℕ) (path : List At) (ask : ℕ) → delays k path ask ≤ d) → IsPlanFor p plan → IsBriskPlan (laned p) plan
    → (input : PlainInput) (turns : ℕ) (outs : List ℕ) (drams : List (List ℕ)) (h : History) → (r : RunsSoundly p plan delays input turns outs drams h) → (n : ℕ) → rounds (core_of p).root (shape_of (core_of p).root h) ≤ n
    → (core_timed (laned p) plan delays r.history).took + 2 ≤ limit n d (laned p)
