-- `check P`, `format P` and `report P`: whether program P is one of the language, its canonical text, and what is decided of it.
use Rattle.std.specs.Prelude.{◌≡◌, ◌≢◌, ℕ, List, [], ◌∷◌, codes}
use Rattle.sp_edges.specs.Standing.{Standing}
use Rattle.sp_edges.specs.Calls.{Call, given}
use Rattle.sp_tree.specs.PlainProgram.{PlainProgram}
use Rattle.sp_printer.specs.Program.{canonical_text}
use Rattle.sp_source.specs.declared.error.SourceError.{SourceError}
use Rattle.sp_source.specs.declared.error.SourceError.TheVariants as source
use Rattle.sp_source.specs.Texts.{Spells, IsCauseOf}
use Rattle.sp_plan.specs.PlainPlan.{PlainPlan}
use Rattle.sp_report.specs.Report.{report_text}
use Rattle.sp_compile.specs.Choices.{lanes_of, IsPlanOf}
use Rattle.sp_top.specs.Programs.{longest_program}
use Rattle.sp_top.specs.Reads.{GivesText, ReadRefuses}
use Rattle.sp_top.specs.Status.{PlainStatus, memory, source_refused}

-- the bytes spell a program, and the text says so
abbrev pub SaysRight : (bytes text : List ℕ) → Type 0
SaysRight bytes text = (program : PlainProgram) × Spells bytes program × (text ≡ codes "ok\n")

-- the bytes spell a program, and the text is the canonical one of that program
abbrev pub WritesCanonical : (bytes text : List ℕ) → Type 0
WritesCanonical bytes text = (program : PlainProgram) × Spells bytes program × (text ≡ canonical_text program)

-- the bytes spell a program, and the text tells the plan that is chosen for it
abbrev pub WritesReport : (bytes text : List ℕ) → Type 0
WritesReport bytes text = (program : PlainProgram) × Spells bytes program × ((plan : PlainPlan) × IsPlanOf program plan × (text ≡ report_text (lanes_of program) plan))

-- the status in which bytes are refused that spell none
abbrev pub status_of_source : SourceError → PlainStatus
status_of_source source.Memory = memory
status_of_source error = source_refused error

-- why these bytes spell none, or memory ran out
abbrev pub RefusesSource : List ℕ → PlainStatus → Type 0
RefusesSource bytes memory = Unit {0}
RefusesSource bytes (source_refused error) = IsCauseOf bytes error × (error ≢ source.Memory)
RefusesSource bytes status = ⊥

-- the program isn't one, for another cause than memory
pub record BreaksSource (told : List ℕ → Standing) (asked : List Call → Type 0) (program : List ℕ) (error : SourceError) : Type 0 where
  pub bytes : List ℕ
  pub asks : asked (given program ∷ [])
  pub gives : GivesText (told program) longest_program bytes
  pub is_cause : IsCauseOf bytes error
  pub not_memory : error ≢ source.Memory

-- The statuses in which such a command refuses, each with its cause.
abbrev pub CheckRefuses : (List ℕ → Standing) → (failed : List ℕ → Type 0) → (asked : List Call → Type 0) → (program : List ℕ) → PlainStatus → Type 0
CheckRefuses told failed asked program (source_refused error) = BreaksSource told asked program error
CheckRefuses told failed asked program status = ReadRefuses (told program) (failed program) asked longest_program program status
