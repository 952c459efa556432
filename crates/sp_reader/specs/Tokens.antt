-- The tokens of a text.
use Rattle.std.specs.Prelude.{ℕ, zero, suc, ◌+◌, ◌-◌, ◌==◌, ◌&&◌, ◌||◌, nat_lt, Bool, true, false, if◌then◌else◌, List, [], ◌∷◌, ◌++◌, length, take, drop, min, slice_get, map, slice_index, codes, Option, Some, None}
use Rattle.std.specs.List.{list_any, starts_with}
use Rattle.std.specs.Prelude.{nat_eq}
use Rattle.std.specs.Char.{is_ascii_digit, is_ascii_hexdigit, is_ascii_alphabetic}
use Rattle.std.specs.Str.{bytes_eq}
use Rattle.sp_reader.specs.declared.class.Class.TheVariants.{Digit, Hex, Word, Line}
use Rattle.sp_reader.specs.declared.token.TokenKind.{TokenKind}
use Rattle.sp_reader.specs.declared.token.TokenKind.TheVariants as k
use Rattle.sp_reader.specs.declared.token.Token.{Token}
use Rattle.sp_reader.specs.declared.scan.Piece.{Piece}
use Rattle.sp_reader.specs.declared.scan.Piece.TheVariants as piece
use Rattle.sp_reader.specs.declared.scan.Scanned.{Scanned}
use Rattle.sp_reader.specs.Classes.{past}
use Rattle.sp_reader.specs.Steps.{Text, is_name}

-- ---- words and signs

abbrev pub lookup : List (Text × TokenKind) → Text → TokenKind
lookup [] word = k.Name
lookup (w ∷ ws) word = if bytes_eq w.0 word then w.1 else lookup ws word

-- the words that are no plain names
abbrev pub words : List (Text × TokenKind)
words =
    (codes "val", k.Val) ∷ (codes "Accel", k.Accel) ∷ (codes "ArgIn", k.ArgIn) ∷ (codes "ArgOut", k.ArgOut)
    ∷ (codes "DRAM", k.Dram) ∷ (codes "Reg", k.Reg) ∷ (codes "SRAM", k.Sram) ∷ (codes "FIFO", k.Fifo)
    ∷ (codes "LineBuffer", k.LineBuffer) ∷ (codes "Int", k.Int) ∷ (codes "Bit", k.Bit)
    ∷ (codes "FixPt", k.FixPt) ∷ (codes "TRUE", k.Signed) ∷ (codes "FALSE", k.Unsigned)
    ∷ (codes "true", k.True) ∷ (codes "false", k.False) ∷ (codes "Foreach", k.Foreach)
    ∷ (codes "Reduce", k.Reduce) ∷ (codes "Fold", k.Fold) ∷ (codes "MemReduce", k.MemReduce)
    ∷ (codes "FSM", k.Fsm) ∷ (codes "Sequential", k.Sequential) ∷ (codes "Pipe", k.Pipe)
    ∷ (codes "Parallel", k.Parallel) ∷ (codes "Stream", k.Stream) ∷ (codes "if", k.If)
    ∷ (codes "else", k.Else) ∷ (codes "mux", k.Mux) ∷ (codes "min", k.Min) ∷ (codes "max", k.Max)
    ∷ (codes "by", k.By) ∷ (codes "par", k.Par) ∷ (codes "until", k.Until) ∷ (codes "load", k.Load)
    ∷ (codes "store", k.Store) ∷ (codes "to", k.To) ∷ (codes "value", k.Value) ∷ (codes "enq", k.Enq)
    ∷ (codes "deq", k.Deq) ∷ (codes "gather", k.Gather) ∷ (codes "scatter", k.Scatter) ∷ []

-- the kind of a word
unfoldable pub word_kind : Text → TokenKind
word_kind = lookup words

abbrev pub first_sign : List (Text × TokenKind) → Text → TokenKind × ℕ
first_sign [] text = (k.Other, 1)
first_sign (s ∷ ss) text = if starts_with nat_eq text s.0 then (s.1, length s.0) else first_sign ss text

-- the signs, each after those that begin with it, so that the first that fits is the longest
abbrev pub signs : List (Text × TokenKind)
signs =
    (codes ":=", k.Assign) ∷ (codes "::", k.Colons) ∷ (codes "=>", k.Arrow) ∷ (codes "==", k.EqualEqual)
    ∷ (codes "=", k.Equal) ∷ (codes "!=", k.BangEqual) ∷ (codes "!", k.Bang) ∷ (codes "<<", k.ShiftLeft)
    ∷ (codes "<=", k.LessEqual) ∷ (codes "<", k.Less) ∷ (codes ">>", k.ShiftRight)
    ∷ (codes ">=", k.GreaterEqual) ∷ (codes ">", k.Greater) ∷ (codes "&&", k.AndAnd) ∷ (codes "&", k.And)
    ∷ (codes "||", k.OrOr) ∷ (codes "|", k.Or) ∷ (codes "(", k.OpenRound) ∷ (codes ")", k.CloseRound)
    ∷ (codes "[", k.OpenSquare) ∷ (codes "]", k.CloseSquare) ∷ (codes "{", k.OpenCurly)
    ∷ (codes "}", k.CloseCurly) ∷ (codes ",", k.Comma) ∷ (codes ".", k.Dot) ∷ (codes ";", k.Semicolon)
    ∷ (codes "+", k.Plus) ∷ (codes "-", k.Minus) ∷ (codes "*", k.Star) ∷ (codes "/", k.Slash)
    ∷ (codes "%", k.Percent) ∷ (codes "^", k.Caret) ∷ (codes "~", k.Tilde) ∷ []

-- the kind of the sign that a text begins with, and its length
unfoldable pub sign_of : Text → TokenKind × ℕ
sign_of = first_sign signs

-- ---- what a text begins with

abbrev pub a_word : Text → Piece
a_word text = piece.Token (word_kind (take (past Word text 0) text)) (past Word text 0)

abbrev pub number_end : Text → ℕ
number_end text =
    if slice_index text (past Digit text 0) == 46 && is_ascii_digit (slice_index text (past Digit text 0 + 1)) then past Digit text (past Digit text 0 + 1) else past Digit text 0

abbrev pub a_number : Text → Piece
a_number text =
    if slice_index text 0 == 48 && slice_index text 1 == 120 && is_ascii_hexdigit (slice_index text 2) then piece.Token k.Number (past Hex text 2)
    else piece.Token k.Number (number_end text)

abbrev pub an_underscore : Text → Piece
an_underscore text = if past Digit text 1 == 1 then piece.Token k.Wild 1 else piece.Token k.Width (past Digit text 1)

-- the number of bytes up to and with the first `*/`, with those before
abbrev pub comment_from : ℕ → Text → Option ℕ
comment_from before [] = None
comment_from before (b ∷ rest) = if b == 42 && slice_index rest 0 == 47 then Some (before + 2) else comment_from (before + 1) rest

abbrev pub block_comment : Option ℕ → Piece
block_comment None = piece.Open
block_comment (Some len) = piece.Gap (len + 2)

abbrev pub a_slash : Text → Piece
a_slash text =
    if slice_index text 1 == 47 then piece.Gap (past Line text (min 2 (length text)))
    else (if slice_index text 1 == 42 then block_comment (comment_from 0 (drop 2 text)) else piece.Token k.Slash 1)

-- the length of a character, by its first byte
abbrev pub char_len : ℕ → ℕ
char_len first = if nat_lt first 192 then 1 else (if nat_lt first 224 then 2 else (if nat_lt first 240 then 3 else 4))

abbrev pub a_sign : TokenKind × ℕ → Piece
a_sign s = piece.Token s.0 s.1

abbrev pub is_blank : ℕ → Bool
is_blank b = b == 32 || b == 9 || b == 13 || b == 10

-- what stands at the front of a text that has a byte
unfoldable pub front : Text → Piece
front text =
    let first = slice_index text 0 in
    if is_blank first then piece.Gap 1
    else (if first == 47 then a_slash text
    else (if is_ascii_alphabetic first then a_word text
    else (if is_ascii_digit first then a_number text
    else (if first == 95 then an_underscore text
    else (if nat_lt first 128 then a_sign (sign_of text) else piece.Token k.Other (min (char_len first) (length text)))))))

-- ---- the whole text

-- how many bytes a piece takes of a text
abbrev pub len_of : Piece → Text → ℕ
len_of (piece.Gap len) text = len
len_of (piece.Token kind len) text = len
len_of piece.Open text = length text

abbrev pub token_of : TokenKind → ℕ → ℕ → Bool → Scanned
token_of kind at end breaks = record { token = record { kind = kind; at = at; end = end }; breaks = breaks }

-- the token that a piece at a place is; an open comment is one at the end of the text
abbrev pub tokens_of_piece : Piece → ℕ → Bool → Text → List Scanned
tokens_of_piece (piece.Gap len) at breaks text = []
tokens_of_piece (piece.Token kind len) at breaks text = token_of kind at (at + len) breaks ∷ []
tokens_of_piece piece.Open at breaks text = token_of k.Other (at + length text) (at + length text) breaks ∷ []

-- whether a line end stands between the last token and what follows a piece
abbrev pub breaks_after : Piece → Bool → Text → Bool
breaks_after (piece.Gap len) breaks text = breaks || list_any (λ b. b == 10) (take len text)
breaks_after _ breaks text = false

-- the tokens of a text as they are written, from a place on; each piece takes a turn
unfoldable pub scan_from : ℕ → ℕ → Bool → Text → List Scanned
scan_from zero at breaks text = []
scan_from (suc n) at breaks [] = []
scan_from (suc n) at breaks (b ∷ z) =
    tokens_of_piece (front (b ∷ z)) at breaks (b ∷ z)
    ++ scan_from n (at + len_of (front (b ∷ z)) (b ∷ z)) (breaks_after (front (b ∷ z)) breaks (b ∷ z)) (drop (len_of (front (b ∷ z)) (b ∷ z)) (b ∷ z))

abbrev pub scanned : Text → List Scanned
scanned text = scan_from (length text) 0 false text

-- ---- the `;` that line ends insert

-- whether a statement may end with a token of this kind
abbrev pub may_end : TokenKind → Bool
may_end k.Number = true
may_end k.True = true
may_end k.False = true
may_end k.CloseRound = true
may_end k.CloseSquare = true
may_end k.CloseCurly = true
may_end kind = is_name kind

-- whether a declaration, a statement or a value may begin with a token of this kind
abbrev pub may_begin : TokenKind → Bool
may_begin k.Number = true
may_begin k.True = true
may_begin k.False = true
may_begin k.OpenRound = true
may_begin k.Minus = true
may_begin k.Bang = true
may_begin k.Tilde = true
may_begin k.Val = true
may_begin k.Accel = true
may_begin k.If = true
may_begin k.Mux = true
may_begin k.Min = true
may_begin k.Max = true
may_begin k.Foreach = true
may_begin k.Reduce = true
may_begin k.Fold = true
may_begin k.MemReduce = true
may_begin k.Fsm = true
may_begin k.Sequential = true
may_begin k.Pipe = true
may_begin k.Parallel = true
may_begin k.Stream = true
may_begin kind = is_name kind

-- whether statements may stand inside of the innermost open bracket
abbrev pub may_split : Option TokenKind → Bool
may_split (Some k.OpenRound) = false
may_split (Some k.OpenSquare) = false
may_split _ = true

-- the open brackets after a token, the innermost last
abbrev pub opened : List TokenKind → TokenKind → List TokenKind
opened brackets k.OpenRound = brackets ++ k.OpenRound ∷ []
opened brackets k.OpenSquare = brackets ++ k.OpenSquare ∷ []
opened brackets k.OpenCurly = brackets ++ k.OpenCurly ∷ []
opened brackets k.CloseRound = take (length brackets - 1) brackets
opened brackets k.CloseSquare = take (length brackets - 1) brackets
opened brackets k.CloseCurly = take (length brackets - 1) brackets
opened brackets _ = brackets

-- whether a `;` is inserted before a token
abbrev pub inserts : TokenKind → List TokenKind → Scanned → Bool
inserts before brackets s = s.breaks && may_end before && may_begin s.token.kind && may_split (slice_get brackets (length brackets - 1))

-- a token, and the `;` before it
abbrev pub with_separator : TokenKind → List TokenKind → Scanned → List Token
with_separator before brackets s = if inserts before brackets s then record { kind = k.Semicolon; at = s.token.at; end = s.token.at } ∷ s.token ∷ [] else s.token ∷ []

-- the tokens with the `;` that line ends insert, after a token and inside open brackets
abbrev pub separated : TokenKind → List TokenKind → List Scanned → List Token
separated before brackets [] = []
separated before brackets (s ∷ rest) = with_separator before brackets s ++ separated s.token.kind (opened brackets s.token.kind) rest

-- the tokens of a text
unfoldable pub tokens_of : Text → List Token
tokens_of text = separated k.End [] (scanned text)
