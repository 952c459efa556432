-- Why nothing is generated: the text is refused, or memory is wanting, which is told by a variant of its own.
use Rattle.std.specs.Prelude.{ℕ}
use Rattle.sp_source.specs.declared.error.SourceError.TheVariants as source
use Rattle.sp_source.specs.Texts.{IsCauseOf}
use Rattle.sp_gen.specs.declared.error.GenError.{GenError}
use Rattle.sp_gen.specs.declared.error.GenError.TheVariants.{Text, Memory}
use Rattle.sp_gen.specs.Text.{program_text}

abbrev pub IsGenCause : (number : ℕ) → GenError → Type 0
IsGenCause number (Text source.Memory) = ⊥
IsGenCause number (Text error) = IsCauseOf (program_text number) error
IsGenCause number Memory = Unit {0}
