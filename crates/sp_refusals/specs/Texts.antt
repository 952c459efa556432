-- Where a text is refused.
use Rattle.std.specs.Prelude.{◌≡◌, ◌≤◌, ◌<◌, ℕ, suc, List, ◌++◌, length, take, Some, Err}
use Rattle.sp_reader.specs.declared.error.ReadError.TheVariants.{NoParse}
use Rattle.sp_reader.specs.declared.limits.Limit.{Limit}
use Rattle.sp_reader.specs.declared.token.Token.{Token}
use Rattle.sp_reader.specs.Limits.{first_passed, place_in, refusal_of, read_of}
use Rattle.sp_reader.specs.PlainStatement.{PlainSyntax}
use Rattle.sp_reader.specs.Steps.{Text}
use Rattle.sp_reader.specs.Tokens.{tokens_of}
use Rattle.sp_grammar.specs.Statements.{IsProgram}
use Rattle.sp_refusals.specs.Laws.{AreLike}

-- these tokens of a text go on in the grammar. The text goes on too, since it may have no number where one is called for
abbrev pub GoOn : Text → List Token → Type 0
GoOn source ts = (more : Text) × (rest : List Token) × (tree : PlainSyntax) × IsProgram (source ++ more) (ts ++ rest) tree

-- the tokens of a text before the one of this number go on in the grammar; with it none do, also none of another text
-- that begin with tokens of the same kinds, of which numbers spell the same; where it is the number of the end, all of them aren't
pub record IsFirstRefused (source : Text) (ts : List Token) (number : ℕ) : Type 0 where
  pub before : GoOn source (take number ts)
  pub with_it : (other : Text) (front rest : List Token) (tree : PlainSyntax) → number < length ts → AreLike source other (take (suc number) ts) front → IsProgram other (front ++ rest) tree → ⊥
  pub at_end : (tree : PlainSyntax) → number ≡ length ts → IsProgram source ts tree → ⊥

-- a text that the rules refuse is refused at the first token, or else the end, with which nothing is in the grammar
abbrev pub RefusedFirst : Type 0
RefusedFirst = (source : Text) (at : ℕ) → read_of source ≡ Err (NoParse at) → (number : ℕ) × (number ≤ length (tokens_of source)) × (at ≡ place_in source (tokens_of source) number) × IsFirstRefused source (tokens_of source) number

-- a text that is refused for a limit is refused at the first token that passes one, and the tokens before it go on in the grammar
abbrev pub PassedFirst : Type 0
PassedFirst = (source : Text) (at : ℕ) (limit : Limit) → read_of source ≡ Err (refusal_of limit at)
    → (number : ℕ) × (first_passed source (tokens_of source) ≡ Some (number, limit)) × (at ≡ place_in source (tokens_of source) number) × GoOn source (take number (tokens_of source))
