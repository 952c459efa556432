-- Where a text is refused, told of texts: what stands before the refused token begins one in the grammar, and with it none does.
use Rattle.std.specs.Prelude.{◌≡◌, ◌≤◌, ◌<◌, ◌⊎◌, ℕ, true, false, List, [], ◌∷◌, ◌++◌, length, take, None, Some, Err}
use Rattle.std.specs.List.{Contains}
use Rattle.sp_reader.specs.declared.error.ReadError.TheVariants.{NoParse}
use Rattle.sp_reader.specs.declared.limits.Limit.{Limit}
use Rattle.sp_reader.specs.declared.scan.Scanned.{Scanned}
use Rattle.sp_reader.specs.declared.token.Token.{Token}
use Rattle.sp_reader.specs.Limits.{first_passed, place_in, refusal_of, fault_of, read_of}
use Rattle.sp_reader.specs.PlainStatement.{PlainSyntax}
use Rattle.sp_reader.specs.Steps.{Text}
use Rattle.sp_reader.specs.Tokens.{is_blank, scanned, tokens_of}
use Rattle.sp_grammar.specs.Statements.{IsProgram}
use Rattle.sp_refusals.specs.Texts.{IsFirstRefused}

-- a text whose tokens are in the grammar. It may pass a limit.
abbrev pub IsInGrammar : Text → Type 0
IsInGrammar text = (tree : PlainSyntax) × IsProgram text (tokens_of text) tree

-- with a blank and others behind, these bytes are a text in the grammar, which is UTF-8
abbrev pub GoesOn : Text → Type 0
GoesOn bytes = (more : Text) × (fault_of (bytes ++ 32 ∷ more) ≡ None) × IsInGrammar (bytes ++ 32 ∷ more)

-- nothing, or what begins with a blank
abbrev pub StandsApart : Text → Type 0
StandsApart [] = Unit {0}
StandsApart (b ∷ more) = is_blank b ≡ true

-- where the last of these tokens ends, or `last` where there are none. A `;` that a line end inserts ends at the token behind it.
abbrev pub end_of : (last : ℕ) → List Token → ℕ
end_of last [] = last
end_of last (t ∷ ts) = end_of t.end ts

-- a token that is written at a place of a text. A comment without its end has no byte, and isn't one.
pub record IsWrittenAt (source : Text) (place : ℕ) (s : Scanned) : Type 0 where
  pub one : Contains (scanned source) s
  pub begins : s.token.at ≡ place
  pub some : s.token.at < s.token.end

-- what stands before the token of a number goes on to a text in the grammar: up to the end of the token before it, and up to the
-- one that is written at its place, where no line end stands between
pub record GoesOnBefore (source : Text) (number : ℕ) : Type 0 where
  pub behind : GoesOn (take (end_of 0 (take number (tokens_of source))) source)
  pub up_to : (s : Scanned) → IsWrittenAt source (place_in source (tokens_of source) number) s → s.breaks ≡ false → GoesOn (take s.token.at source)

-- the place is that of the first refused token, or the end. What stands before it, or before a token before it, goes on to a text in
-- the grammar; up to the end of the token that is written there it begins none, be it over or followed by a blank; and the text isn't
-- one
pub record IsRefusedAt (source : Text) (place : ℕ) : Type 0 where
  pub number : ℕ
  pub among : number ≤ length (tokens_of source)
  pub stands : place ≡ place_in source (tokens_of source) number
  pub written : ((s : Scanned) × IsWrittenAt source place s) ⊎ (place ≡ length source)
  pub first : IsFirstRefused source (tokens_of source) number
  pub before : (n : ℕ) → n ≤ number → GoesOnBefore source n
  pub with_it : (s : Scanned) (more : Text) → IsWrittenAt source place s → StandsApart more → IsInGrammar (take s.token.end source ++ more) → ⊥
  pub itself : IsInGrammar source → ⊥

-- a UTF-8 text that is refused at a place, and of which no token up to the refused one passes a limit
pub record IsRefused (source : Text) (place : ℕ) : Type 0 where
  pub is_text : fault_of source ≡ None
  pub refused : IsRefusedAt source place
  pub within : (p : ℕ × Limit) → first_passed source (tokens_of source) ≡ Some p → refused.number < p.0

-- the rules refuse a text at a place exactly where it is so
abbrev pub RefusedTexts : Type 0
RefusedTexts = (source : Text) (place : ℕ) → (read_of source ≡ Err (NoParse place) → IsRefused source place) × (IsRefused source place → read_of source ≡ Err (NoParse place))

-- what stands before the first token that passes a limit, or before a token before it, goes on to a text in the grammar
abbrev pub PassedTexts : Type 0
PassedTexts = (source : Text) (place : ℕ) (limit : Limit) → read_of source ≡ Err (refusal_of limit place)
    → (number : ℕ) × (first_passed source (tokens_of source) ≡ Some (number, limit)) × (place ≡ place_in source (tokens_of source) number) × ((n : ℕ) → n ≤ number → GoesOnBefore source n)
