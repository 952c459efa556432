-- That nothing is left open in what is decided of a program.
use Rattle.std.specs.Prelude.{◌≡◌, ℕ, List}
use Rattle.sp_compile.specs.Choices.{lanes_of, IsPlanOf}
use Rattle.sp_core.specs.declared.access.Meet.{Meet}
use Rattle.sp_core.specs.Forms.{PlainForms}
use Rattle.sp_core.specs.PlainCore.{PlainCore}
use Rattle.sp_meets.specs.Meets.{IsMeetsOf}
use Rattle.sp_plan.specs.PlainPlan.{PlainPlan}
use Rattle.sp_report.specs.Report.{report_text}
use Rattle.sp_source.specs.Texts.{Spells}
use Rattle.sp_tree.specs.PlainProgram.{PlainProgram}

-- the meets of a core are one list for these forms
abbrev pub CoresHaveOneListOfMeets : Type 0
CoresHaveOneListOfMeets = (core : PlainCore) (forms : PlainForms) (a b : List Meet) → IsMeetsOf core forms a → IsMeetsOf core forms b → a ≡ b

-- a program has one plan
abbrev pub ProgramsHaveOnePlan : Type 0
ProgramsHaveOnePlan = (program : PlainProgram) (p q : PlainPlan) → IsPlanOf program p → IsPlanOf program q → p ≡ q

-- the text tells the plan that is chosen for the program
abbrev pub IsReportOf : (program : PlainProgram) → (text : List ℕ) → Type 0
IsReportOf program text = (plan : PlainPlan) × IsPlanOf program plan × (text ≡ report_text (lanes_of program) plan)

-- a program has one report
abbrev pub ProgramsHaveOneReport : Type 0
ProgramsHaveOneReport = (program : PlainProgram) (s t : List ℕ) → IsReportOf program s → IsReportOf program t → s ≡ t

-- the bytes spell a program, and the text is its report
abbrev pub IsReportOfText : (bytes text : List ℕ) → Type 0
IsReportOfText bytes text = (program : PlainProgram) × Spells bytes program × IsReportOf program text

-- the text of a program has one report
abbrev pub TextsHaveOneReport : Type 0
TextsHaveOneReport = (bytes s t : List ℕ) → IsReportOfText bytes s → IsReportOfText bytes t → s ≡ t
