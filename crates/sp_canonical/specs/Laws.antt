-- What the canonical text of a program is the text of.
use Rattle.std.specs.Prelude.{◌≡◌, Bool, true, false, List, [], ◌∷◌, Ok}
use Rattle.std.specs.Option.{option_map_or}
use Rattle.std.specs.Str.{IsAscii}
use Rattle.sp_printer.specs.Program.{canonical_text}
use Rattle.sp_reader.specs.declared.token.Token.{Token}
use Rattle.sp_reader.specs.Limits.{PlainCounts, taken, read_of}
use Rattle.sp_reader.specs.PlainStatement.{PlainSyntax}
use Rattle.sp_reader.specs.Steps.{Text, kind_of}
use Rattle.sp_reader.specs.Tokens.{tokens_of}
use Rattle.sp_retyped.specs.BareBody.{bare_program}
use Rattle.sp_source.specs.declared.error.SourceError.{SourceError}
use Rattle.sp_source.specs.declared.error.SourceError.TheVariants.{Memory}
use Rattle.sp_source.specs.Texts.{Spells, IsCauseOf}
use Rattle.sp_tree.specs.Invariant.{IsProgram}
use Rattle.sp_tree.specs.PlainProgram.{PlainProgram}

-- whether, from these counts on, a bracket or an operator stands deeper than the reader allows
abbrev pub is_passed_from : PlainCounts → List Token → Bool
is_passed_from c [] = false
is_passed_from c (t ∷ ts) = option_map_or (λ more. is_passed_from more ts) (taken c t.kind (kind_of ts)) true

-- at most 64 brackets are open at once, and at most 64 operators stand at one place
abbrev pub IsShallow : Text → Type 0
IsShallow text = is_passed_from (record { around = []; here = 0 }) (tokens_of text) ≡ false

-- the canonical text of a program is read, keeps the rules of names and types, is within the limits of programs, and
-- spells the program again, but for places, whose canonical text it is, too; it spells no other program, and may be
-- refused for want of memory alone
pub record IsReadBack (p : PlainProgram) : Type 0 where
  pub read : PlainProgram
  pub spelled : Spells (canonical_text p) read
  pub same : bare_program read ≡ bare_program p
  pub again : canonical_text read ≡ canonical_text p
  pub no_other : (q : PlainProgram) → Spells (canonical_text p) q → bare_program q ≡ bare_program p
  pub not_refused : (error : SourceError) → IsCauseOf (canonical_text p) error → error ≡ Memory

-- of each program whose canonical text is shallow
abbrev pub CanonicalTextsReadBack : Type 0
CanonicalTextsReadBack = (p : PlainProgram) → IsProgram p → IsShallow (canonical_text p) → IsReadBack p

-- of each program
abbrev pub CanonicalTextsAreAscii : Type 0
CanonicalTextsAreAscii = (p : PlainProgram) → IsProgram p → IsAscii (canonical_text p)

-- programs that differ in places alone have one canonical text
abbrev pub CanonicalTextsHaveNoPlaces : Type 0
CanonicalTextsHaveNoPlaces = (p q : PlainProgram) → bare_program p ≡ bare_program q → canonical_text p ≡ canonical_text q

-- the canonical text of the program that a text spells, where it is shallow, is a text of the same program
abbrev pub FormattedTextsStay : Type 0
FormattedTextsStay = (text : Text) (p : PlainProgram) → Spells text p → IsShallow (canonical_text p) → IsReadBack p

-- no other text is read: what is read is shallow
abbrev pub ReadTextsAreShallow : Type 0
ReadTextsAreShallow = (text : Text) (tree : PlainSyntax) → read_of text ≡ Ok tree → IsShallow text
