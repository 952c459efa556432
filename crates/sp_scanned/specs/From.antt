-- The tokens of what is left of a text from a place on, with the `;` that line ends insert.
use Rattle.std.specs.Prelude.{◌≡◌, ℕ, ◌-◌, ◌≤◌, ◌&&◌, ◌==◌, not, Bool, true, false, List, ◌∷◌, ◌++◌, length, slice_get, slice_index}
use Rattle.std.specs.Char.{is_ascii_digit}
use Rattle.sp_reader.specs.Classes.{is_in}
use Rattle.sp_reader.specs.declared.class.Class.TheVariants.{Word}
use Rattle.sp_reader.specs.declared.scan.Piece.TheVariants as piece
use Rattle.sp_reader.specs.declared.token.TokenKind.{TokenKind}
use Rattle.sp_reader.specs.declared.token.Token.{Token}
use Rattle.sp_reader.specs.Steps.{Text, spelling_of}
use Rattle.sp_reader.specs.Tokens.{scan_from, separated, front, may_begin, may_split}

-- the tokens of `rest`, where `done` stands before it in the text: behind a token of a kind, inside of open brackets, and
-- with a line end between that token and here, or without one
pub record From (source : Text) (breaks : Bool) (before : TokenKind) (brackets : List TokenKind) (rest : Text) (ts : List Token) : Type 0 where
  pub done : Text
  pub joined : source ≡ done ++ rest
  pub at : ℕ
  pub place : at ≡ length done
  pub turns : ℕ
  pub enough : length rest ≤ turns
  pub are : ts ≡ separated before brackets (scan_from turns at breaks rest)

-- a token of these bytes stands at the front of a text, with whatever follows it
pub record Fronts (kind : TokenKind) (bytes rest : Text) : Type 0 where
  pub some : 1 ≤ length bytes
  pub is : front (bytes ++ rest) ≡ piece.Token kind (length bytes)

-- what is taken of a text with a token at its front
pub record Taken (source : Text) (kind : TokenKind) (bytes : Text) (brackets : List TokenKind) (rest : Text) (ts : List Token) : Type 0 where
  pub token : Token
  pub left : List Token
  pub is : ts ≡ token ∷ left
  pub of_kind : token.kind ≡ kind
  pub spells : spelling_of source token ≡ bytes
  pub next : From source false kind brackets rest left

-- a text begins with a token with which a declaration, a statement or a value may begin
pub record Begins (text : Text) : Type 0 where
  pub kind : TokenKind
  pub len : ℕ
  pub some : 1 ≤ length text
  pub is : front text ≡ piece.Token kind len
  pub begins : may_begin kind ≡ true

-- the text behind a name or a number doesn't go on with it
abbrev pub stops : Text → Bool
stops rest = not (is_in Word (slice_index rest 0)) && not (slice_index rest 0 == 46 && is_ascii_digit (slice_index rest 1))

-- whether statements may stand inside of these brackets
abbrev pub splits : List TokenKind → Bool
splits brackets = may_split (slice_get brackets (length brackets - 1))
