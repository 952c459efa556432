-- The typed program that a text spells, and why a text spells none.
use Rattle.std.specs.Prelude.{◌≡◌, ℕ, List, Ok, Err}
use Rattle.sp_reader.specs.declared.error.ReadError.TheVariants as read
use Rattle.sp_reader.specs.Limits.{read_of}
use Rattle.sp_reader.specs.PlainStatement.{PlainSyntax}
use Rattle.sp_tree.specs.PlainProgram.{PlainProgram}
use Rattle.sp_typed.specs.Programs.{program_of}
use Rattle.sp_check.specs.declared.error.TypeError.{TypeError}
use Rattle.sp_check.specs.declared.error.TypeError.TheVariants as types
use Rattle.sp_check.specs.Refused.{IsRight, IsCause}
use Rattle.sp_source.specs.declared.error.SourceError.{SourceError}
use Rattle.sp_source.specs.declared.error.SourceError.TheVariants.{Read, Types, Memory}

-- the text is read as a tree that keeps the rules of names and types and is within the limits, and that is its program
pub record Spells (text : List ℕ) (program : PlainProgram) : Type 0 where
  pub tree : PlainSyntax
  pub is_read : read_of text ≡ Ok tree
  pub is_right : IsRight tree
  pub is_program : program ≡ program_of tree

-- a tree is read of the text, and breaks a rule first so
pub record BreaksRule (text : List ℕ) (error : TypeError) : Type 0 where
  pub tree : PlainSyntax
  pub is_read : read_of text ≡ Ok tree
  pub is_cause : IsCause tree error

-- Why a text may be refused. Want of memory has a variant of its own, and stands in no other.
abbrev pub IsCauseOf : List ℕ → SourceError → Type 0
IsCauseOf text (Read read.Memory) = ⊥
IsCauseOf text (Read error) = read_of text ≡ Err error
IsCauseOf text (Types types.Memory) = ⊥
IsCauseOf text (Types error) = BreaksRule text error
IsCauseOf text Memory = Unit {0}
