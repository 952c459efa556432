-- How a text is taken apart into its tokens, one after the other.
use Rattle.std.specs.Prelude.{◌≡◌, ℕ, ◌≤◌, Bool, true, false, List, [], ◌++◌, length, codes}
use Rattle.sp_words.specs.Decimal.{AreDigits, with_point}
use Rattle.sp_words.specs.Names.{IsName}
use Rattle.sp_words.specs.NumberText.{digit_bytes}
use Rattle.sp_reader.specs.declared.token.Token.{Token}
use Rattle.sp_reader.specs.declared.token.TokenKind.{TokenKind}
use Rattle.sp_reader.specs.declared.token.TokenKind.TheVariants as k
use Rattle.sp_reader.specs.Steps.{Text, is_name}
use Rattle.sp_reader.specs.Tokens.{tokens_of, opened}
use Rattle.sp_scanned.specs.From.{From, Fronts, Taken, stops}

-- the tokens of a text are those from its beginning on, and at its end none are left
abbrev pub FromTheBeginning : Type 0
FromTheBeginning = (source : Text) → From source false k.End [] source (tokens_of source)

abbrev pub UpToTheEnd : Type 0
UpToTheEnd = (source : Text) (breaks : Bool) (before : TokenKind) (brackets : List TokenKind) (ts : List Token) → From source breaks before brackets [] ts → ts ≡ []

-- a token that stands at the front is the first one, and the others are those of what stands behind it
abbrev pub TokensAreTaken : Type 0
TokensAreTaken = (source : Text) (before kind : TokenKind) (brackets : List TokenKind) (ts : List Token) (bytes rest : Text)
    → From source false before brackets (bytes ++ rest) ts → Fronts kind bytes rest → Taken source kind bytes (opened brackets kind) rest ts

-- blanks and line ends are no tokens
abbrev pub BlanksArePassed : Type 0
BlanksArePassed = (source : Text) (breaks : Bool) (before : TokenKind) (brackets : List TokenKind) (ts : List Token) (rest : Text)
    → From source breaks before brackets (codes " " ++ rest) ts → From source breaks before brackets rest ts

abbrev pub LineEndsArePassed : Type 0
LineEndsArePassed = (source : Text) (breaks : Bool) (before : TokenKind) (brackets : List TokenKind) (ts : List Token) (rest : Text)
    → From source breaks before brackets (codes "\n" ++ rest) ts → From source true before brackets rest ts

-- a name is one token, and so is a number in decimal digits, with or without a point
abbrev pub NamesAreTokens : Type 0
NamesAreTokens = (name rest : Text) → IsName name → stops rest ≡ true → (kind : TokenKind) × (is_name kind ≡ true) × Fronts kind name rest

abbrev pub NumbersAreTokens : Type 0
NumbersAreTokens = (before after : List ℕ) (rest : Text) → 1 ≤ length before → AreDigits before → AreDigits after → stops rest ≡ true
    → Fronts k.Number (digit_bytes before ++ with_point after) rest
