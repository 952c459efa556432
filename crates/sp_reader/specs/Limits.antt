-- How deep brackets and operators may stand, and how wide numbers may be; and what a text is read as.
use Rattle.std.specs.Prelude.{ℕ, zero, suc, ◌+◌, ◌-◌, ◌&&◌, nat_le, nat_lt, Bool, true, false, not, if◌then◌else◌, List, [], ◌∷◌, ◌++◌, length, take, slice_index_or, Option, Some, None, Result, Ok, Err, ◌≡◌, ◌==◌}
use Rattle.std.specs.Option.{option_map_or}
use Rattle.std.specs.Str.Lossy.{utf8_valid_len}
use Rattle.sp_reader.specs.declared.token.TokenKind.{TokenKind}
use Rattle.sp_reader.specs.declared.token.TokenKind.TheVariants as k
use Rattle.sp_reader.specs.declared.token.Token.{Token}
use Rattle.sp_reader.specs.declared.limits.Limit.{Limit}
use Rattle.sp_reader.specs.declared.limits.Limit.TheVariants.{Deep, Wide}
use Rattle.sp_reader.specs.declared.error.ReadError.{ReadError}
use Rattle.sp_reader.specs.declared.error.ReadError.TheVariants as error
use Rattle.sp_reader.specs.PlainStatement.{PlainSyntax}
use Rattle.sp_reader.specs.Steps.{Text, same_kind, kind_of, spelling_of}
use Rattle.sp_reader.specs.Numbers.{is_too_wide}
use Rattle.sp_reader.specs.Tokens.{tokens_of}
use Rattle.sp_reader.specs.ProgramRules.{program}

-- whether a token counts as an operator, by its kind and that of the next
abbrev pub is_operator : TokenKind → TokenKind → Bool
is_operator k.Plus next = true
is_operator k.Minus next = true
is_operator k.Star next = true
is_operator k.Slash next = true
is_operator k.Percent next = true
is_operator k.And next = true
is_operator k.AndAnd next = true
is_operator k.Or next = true
is_operator k.OrOr next = true
is_operator k.Caret next = true
is_operator k.Tilde next = true
is_operator k.Bang next = true
is_operator k.EqualEqual next = true
is_operator k.BangEqual next = true
is_operator k.Less next = true
is_operator k.LessEqual next = true
is_operator k.Greater next = true
is_operator k.GreaterEqual next = true
is_operator k.ShiftLeft next = true
is_operator k.ShiftRight next = true
is_operator k.Dot next = same_kind next k.To
is_operator _ next = false

-- the operators of each place that is open: those of the places around, the outermost first, and here
pub record PlainCounts : Type 0 where
  pub around : List ℕ
  pub here : ℕ

-- one more operator here
abbrev pub more_here : PlainCounts → Option PlainCounts
more_here c = if nat_lt c.here 64 then Some (record { around = c.around; here = c.here + 1 }) else None

-- inside a bracket
abbrev pub inside : PlainCounts → Option PlainCounts
inside c = if nat_lt (length c.around) 64 then Some (record { around = c.around ++ c.here ∷ []; here = 0 }) else None

-- behind a bracket
abbrev pub behind : PlainCounts → PlainCounts
behind c = record { around = take (length c.around - 1) c.around; here = slice_index_or c.around (length c.around - 1) c.here }

-- past a `,` or a `;`
abbrev pub afresh : PlainCounts → PlainCounts
afresh c = record { around = c.around; here = 0 }

-- the counts after a token, or None where it passes a limit
abbrev pub taken : PlainCounts → TokenKind → TokenKind → Option PlainCounts
taken c k.OpenRound next = inside c
taken c k.OpenSquare next = inside c
taken c k.OpenCurly next = inside c
taken c k.CloseRound next = Some (behind c)
taken c k.CloseSquare next = Some (behind c)
taken c k.CloseCurly next = Some (behind c)
taken c k.Comma next = Some (afresh c)
taken c k.Semicolon next = Some (afresh c)
taken c kind next = if is_operator kind next then more_here c else Some c

abbrev pub is_wide : Text → Token → Bool
is_wide source t = same_kind t.kind k.Number && is_too_wide (spelling_of source t)

-- the number of the first token that passes a limit, counted from `number`, and which limit
abbrev pub passed_from : Text → PlainCounts → ℕ → List Token → Option (ℕ × Limit)
passed_from source c number [] = None
passed_from source c number (t ∷ ts) =
    if is_wide source t then Some (number, Wide)
    else option_map_or (λ more. passed_from source more (number + 1) ts) (taken c t.kind (kind_of ts)) (Some (number, Deep))

unfoldable pub first_passed : Text → List Token → Option (ℕ × Limit)
first_passed source ts = passed_from source (record { around = []; here = 0 }) 0 ts

-- ---- what a text is read as

-- the place of the token of that number, or the text's length
abbrev pub place_in : Text → List Token → ℕ → ℕ
place_in source [] number = length source
place_in source (t ∷ ts) zero = t.at
place_in source (t ∷ ts) (suc number) = place_in source ts number

abbrev pub refusal_of : Limit → ℕ → ReadError
refusal_of Deep at = error.TooDeep at
refusal_of Wide at = error.LiteralTooWide at

-- of all tokens
abbrev pub read_all : Text → List Token → Result PlainSyntax ℕ → Result PlainSyntax ReadError
read_all source ts (Ok s) = Ok s
read_all source ts (Err left) = Err (error.NoParse (place_in source ts (length ts - left)))

-- of the tokens before the one of that number, which passes a limit
abbrev pub read_before : Text → List Token → ℕ → Limit → Result PlainSyntax ℕ → Result PlainSyntax ReadError
read_before source ts number limit (Ok s) = Err (refusal_of limit (place_in source ts number))
read_before source ts number limit (Err left) =
    if left == 0 then Err (refusal_of limit (place_in source ts number)) else Err (error.NoParse (place_in source ts (number - left)))

abbrev pub read_within : Text → List Token → Option (ℕ × Limit) → Result PlainSyntax ReadError
read_within source ts None = read_all source ts (program source ts)
read_within source ts (Some p) = read_before source ts p.0 p.1 (program source (take p.0 ts))

-- the first byte at which a text isn't UTF-8
unfoldable pub fault_of : Text → Option ℕ
fault_of text = if utf8_valid_len text == length text then None else Some (utf8_valid_len text)

abbrev pub read_past : Text → Option ℕ → Result PlainSyntax ReadError
read_past source (Some at) = Err (error.NotText at)
read_past source None = read_within source (tokens_of source) (first_passed source (tokens_of source))

-- of a text: its tree, or its first refusal
unfoldable pub read_of : Text → Result PlainSyntax ReadError
read_of source = read_past source (fault_of source)

-- what `read` gives, unless memory fails
abbrev pub Answers : {X : Type 0} → (X → PlainSyntax) → Result X ReadError → Result PlainSyntax ReadError → Type 0
Answers view (Ok x) outcome = outcome ≡ Ok (view x)
Answers view (Err error.Memory) outcome = Unit {0}
Answers view (Err e) outcome = outcome ≡ Err e
