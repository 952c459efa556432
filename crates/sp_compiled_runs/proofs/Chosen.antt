-- What is decided of a program is chosen for it.
use Rattle.std.proofs.Common.{ℕ}
use Rattle.sp_tree.specs.PlainProgram.{PlainProgram}
use Rattle.sp_plan.specs.PlainPlan.{PlainPlan}
use Rattle.sp_machine.specs.Transfers.{Delays}
use Rattle.sp_program_runs.specs.RunsLaws.{ProgramRuns}
use Rattle.sp_compiled_runs.specs.Laws.{PlanIsChosen, PlannedProgramRuns}

pub chosen : (p : PlainProgram) (plan : PlainPlan) → PlanIsChosen p plan
chosen p plan made simple = (made.meets, record { is_timed = simple.is_timed; meets_are = made.are_meets; is_chosen = made.is_planned })

pub planned_runs : (p : PlainProgram) (plan : PlainPlan) (delays : Delays) (delay : ℕ) → ProgramRuns p plan delays delay → PlannedProgramRuns p plan delays delay
planned_runs p plan delays delay runs made simple waits n input fits outs drams turns shape e =
    let has = chosen p plan made simple in
    runs has.0 has.1 waits n input fits outs drams turns shape e
