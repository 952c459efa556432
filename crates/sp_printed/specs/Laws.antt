-- What canonical texts are read as.
use Rattle.std.specs.Prelude.{◌≡◌, Ok}
use Rattle.sp_tree.specs.Invariant.{IsProgram}
use Rattle.sp_tree.specs.PlainProgram.{PlainProgram}
use Rattle.sp_reader.specs.Limits.{read_of}
use Rattle.sp_reader.specs.PlainStatement.{PlainSyntax}
use Rattle.sp_reader.specs.Tokens.{tokens_of}
use Rattle.sp_grammar.specs.Laws.{IsWithinLimits}
use Rattle.sp_grammar.specs.Statements.{IsProgram as IsProgramText}
use Rattle.sp_printer.specs.Program.{canonical_text}
use Rattle.sp_printed.specs.StatementTrees.{IsProgramTree}

-- the tokens of a canonical text spell a tree that is one of its program
pub record SpellsItsTree (p : PlainProgram) : Type 0 where
  pub tree : PlainSyntax
  pub spelled : IsProgramText (canonical_text p) (tokens_of (canonical_text p)) tree
  pub is_tree : IsProgramTree p tree

-- a canonical text is read as such a tree
pub record IsReadAsItsTree (p : PlainProgram) : Type 0 where
  pub tree : PlainSyntax
  pub is_read : read_of (canonical_text p) ≡ Ok tree
  pub is_tree : IsProgramTree p tree

-- of each program
abbrev pub CanonicalTextsSpell : Type 0
CanonicalTextsSpell = (p : PlainProgram) → IsProgram p → SpellsItsTree p

-- of each program whose canonical text passes no limit of the reader
abbrev pub CanonicalTextsAreRead : Type 0
CanonicalTextsAreRead = (p : PlainProgram) → IsProgram p → IsWithinLimits (canonical_text p) → IsReadAsItsTree p
