-- Programs and the plans that are decided of them, as statements.
use Rattle.std.specs.Prelude.{◌≡◌, ℕ, ◌≤◌, List}
use Rattle.sp_words.specs.Ports.{PlainInput}
use Rattle.sp_tree.specs.Meaning as program
use Rattle.sp_tree.specs.Meaning.{seq}
use Rattle.sp_tree.specs.PlainProgram.{PlainProgram}
use Rattle.sp_tree.specs.Shape.{Shape}
use Rattle.sp_core.specs.declared.access.Meet.{Meet}
use Rattle.sp_core.specs.Events.{At}
use Rattle.sp_core.specs.Inputs.{InputFits}
use Rattle.sp_sugar.specs.Core.{core_of}
use Rattle.sp_plan.specs.PlainPlan.{PlainPlan}
use Rattle.sp_machine.specs.Transfers.{Delays}
use Rattle.sp_lane_programs.specs.Timed.{BodyTimed}
use Rattle.sp_program_runs.specs.RunsLaws.{HasPlan, Runs}
use Rattle.sp_compile.specs.Choices.{IsPlanOf}

-- a program without proper `Stream` blocks, gathers, scatters and wide transfers
pub record IsSimple (p : PlainProgram) : Type 0 where
  pub is_timed : BodyTimed p.mems p.body

-- what is decided of such a program is the plan that is chosen for it
abbrev pub PlanIsChosen : PlainProgram → PlainPlan → Type 0
PlanIsChosen p plan = IsPlanOf p plan → IsSimple p → (meets : List Meet) × HasPlan p meets plan

-- so where the program ends, its core in lanes has a run with the program's words that this plan brings to its end in time,
-- whatever the delays of its transfers are up to a greatest one
abbrev pub PlannedProgramRuns : PlainProgram → PlainPlan → Delays → (delay : ℕ) → Type 0
PlannedProgramRuns p plan delays delay =
    IsPlanOf p plan → IsSimple p → ((k : ℕ) (path : List At) (ask : ℕ) → delays k path ask ≤ delay)
    → (n : ℕ) (input : PlainInput) → InputFits (core_of p) input → (outs : List ℕ) (drams : List (List ℕ)) (turns : ℕ) (shape : Shape) → seq n p input ≡ program.ended outs drams turns shape
    → Runs p plan delays delay input n turns outs drams
