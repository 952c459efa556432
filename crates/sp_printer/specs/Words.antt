-- How literals are written.
use Rattle.std.specs.Prelude.{ℕ, ◌==◌, ◌%◌, ◌^◌, List, [], ◌++◌, codes, if◌then◌else◌}
use Rattle.sp_words.specs.declared.types.Ty.{Ty}
use Rattle.sp_words.specs.declared.types.Ty.TheVariants.{Fix, Bit}
use Rattle.sp_words.specs.Decimal.{text_of}
use Rattle.sp_words.specs.Types.{width_of}
use Rattle.sp_printer.specs.Types.{is_int, type_text}

-- the word that a number is at a type: its lowest bits, all of them in a program
abbrev pub word_at : Ty → ℕ → ℕ
word_at ty n = n % 2 ^ width_of ty

abbrev pub cast_text : Ty → List ℕ
cast_text ty = codes ".to[" ++ (type_text ty ++ codes "]")

-- an `Int` is written without its type
abbrev pub type_after : Ty → List ℕ
type_after ty = if is_int ty then [] else cast_text ty

-- a word of `Bit` is a truth, any other the exact decimal number that it means
abbrev pub literal_text : Ty → ℕ → List ℕ
literal_text Bit n = if n == 0 then codes "false" else codes "true"
literal_text (Fix t) n = text_of (Fix t) (word_at (Fix t) n) ++ type_after (Fix t)
