-- What the plain reader gives, by the grammar.
use Rattle.std.specs.Prelude.{◌≡◌, List, None, Ok}
use Rattle.sp_reader.specs.declared.token.Token.{Token}
use Rattle.sp_reader.specs.Limits.{first_passed, fault_of, read_of}
use Rattle.sp_reader.specs.PlainStatement.{PlainSyntax}
use Rattle.sp_reader.specs.ProgramRules.{program}
use Rattle.sp_reader.specs.Steps.{Text}
use Rattle.sp_reader.specs.Tokens.{tokens_of}
use Rattle.sp_grammar.specs.Statements.{IsProgram}

-- what is read is in the grammar
abbrev pub ReadsGrammar : Type 0
ReadsGrammar = (source : Text) (ts : List Token) (tree : PlainSyntax) → program source ts ≡ Ok tree → IsProgram source ts tree

-- what is in the grammar is read as its tree
abbrev pub GrammarIsRead : Type 0
GrammarIsRead = (source : Text) (ts : List Token) (tree : PlainSyntax) → IsProgram source ts tree → program source ts ≡ Ok tree

-- a list of tokens spells one tree at most
abbrev pub HasOneTree : Type 0
HasOneTree = (source : Text) (ts : List Token) (first second : PlainSyntax) → IsProgram source ts first → IsProgram source ts second → first ≡ second

-- a text that is UTF-8, and in which no bracket, operator or number passes its limit
pub record IsWithinLimits (source : Text) : Type 0 where
  pub is_text : fault_of source ≡ None
  pub within : first_passed source (tokens_of source) ≡ None

-- a text within the limits spells a tree
abbrev pub Spells : Text → PlainSyntax → Type 0
Spells source tree = IsWithinLimits source × IsProgram source (tokens_of source) tree

-- a text is read as a tree exactly where it spells it
abbrev pub TextsAreRead : Type 0
TextsAreRead = (source : Text) (tree : PlainSyntax) → (read_of source ≡ Ok tree → Spells source tree) × (Spells source tree → read_of source ≡ Ok tree)
