-- The plain reader: names and numbers.
use Rattle.std.specs.Prelude.{ℕ, ◌&&◌, ◌||◌, not, nat_le, Bool, false, if◌then◌else◌, List, [], ◌∷◌, length, Option, Some, None, Result, Ok, Err, encode_utf8_all}
use Rattle.std.specs.Option.{option_map_or}
use Rattle.sp_reader.specs.declared.token.TokenKind.TheVariants.{Number}
use Rattle.sp_reader.specs.declared.token.Token.{Token}
use Rattle.sp_reader.specs.PlainTree.{PlainIdent, PlainDigits}
use Rattle.sp_reader.specs.Steps.{Text, Rule, is_name, kind_of, tail_of, place_of, sees, spelling}
use Rattle.sp_reader.specs.Numbers.{has_point, fraction_digits, whole as whole_part}

abbrev pub ident : Text → List Token → PlainIdent
ident source ts = record { place = place_of ts; text = encode_utf8_all (spelling source ts) }

unfoldable pub name : Text → Rule PlainIdent
name source = λ ts. if is_name (kind_of ts) then Ok (ident source ts, tail_of ts) else Err (length ts)

abbrev pub digits : ℕ → Bool → Text → ℕ → PlainDigits
digits at negative text n = record { place = at; negative = negative; whole = n; digits = fraction_digits text }

-- a number that begins at `at` with its sign
unfoldable pub number : Text → ℕ → Bool → Rule PlainDigits
number source at negative = λ ts.
    if sees Number ts then option_map_or (λ n. Ok (digits at negative (spelling source ts) n, tail_of ts)) (whole_part (spelling source ts)) (Err (length ts))
    else Err (length ts)

abbrev pub between : ℕ → ℕ → List Token → ℕ → Result (ℕ × List Token) ℕ
between least most ts n = if nat_le least n && nat_le n most then Ok (n, tail_of ts) else Err (length ts)

-- a number without a point from `least` to `most`
unfoldable pub whole : Text → ℕ → ℕ → Rule ℕ
whole source least most = λ ts.
    if not (sees Number ts) || has_point (spelling source ts) then Err (length ts)
    else option_map_or (between least most ts) (whole_part (spelling source ts)) (Err (length ts))

-- a dimension, a depth, a step or a number of lanes
unfoldable pub count : Text → Rule ℕ
count source = whole source 1 2147483647
