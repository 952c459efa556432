-- What the texts and the values of a setup say at a type: a word, a number that is out of range, or no number.
use Rattle.std.specs.Prelude.{ℕ, ◌-◌, ◌^◌, nat_lt, nat_le, Bool, ◌&&◌, if◌then◌else◌, ℤ, pos, neg_ℤ, int_lt, int_le, unsigned_abs, List, [], length, codes, Option, Some, None}
use Rattle.std.specs.Str.{bytes_eq}
use Rattle.toml.specs.Data.{Data, string, integer, float, boolean, datetime, array, table}
use Rattle.sp_words.specs.declared.types.Ty.{Ty}
use Rattle.sp_words.specs.declared.types.Ty.TheVariants.{Fix, Bit}
use Rattle.sp_words.specs.Types.{signed_of, width_of}
use Rattle.sp_words.specs.Words.{wrap}
use Rattle.sp_words.specs.Decimal.{digits_number, decimal_value}
use Rattle.sp_setup.specs.declared.reading.Reading.{Reading}
use Rattle.sp_setup.specs.declared.reading.Reading.TheVariants.{Word, OutOfRange, NoNumber}
use Rattle.sp_setup.specs.Number.{NumberParts, number_parts}

-- z is a value of the type: from -2 ^ (width - 1) to 2 ^ (width - 1) - 1 where it has a sign, else from 0 to 2 ^ width - 1
unfoldable pub is_in_range : Ty → ℤ → Bool
is_in_range ty z =
    if signed_of ty
    then int_le (neg_ℤ (pos (2 ^ (width_of ty - 1)))) z && int_lt z (pos (2 ^ (width_of ty - 1)))
    else (int_le (pos 0) z && int_lt z (pos (2 ^ width_of ty)))

-- the number `whole.digits` with its sign: the word of its value times 2 ^ frac, rounded down
unfoldable pub number_reading : Ty → Bool → ℕ → List ℕ → Reading
number_reading ty negative whole digits =
    if is_in_range ty (decimal_value ty negative whole digits) then Word (wrap ty (decimal_value ty negative whole digits)) else OutOfRange

-- a number text: out of range also where its whole part is 2 ^ 128 or more, or more than 64 digits follow the point
unfoldable pub parts_reading : Ty → Option NumberParts → Reading
parts_reading ty None = NoNumber
parts_reading ty (Some parts) =
    if nat_lt (digits_number parts.whole) (2 ^ 128) && nat_le (length parts.fraction) 64
    then number_reading ty parts.negative (digits_number parts.whole) parts.fraction
    else OutOfRange

-- a text: a number text, and for a `Bit` also `true` and `false`
unfoldable pub text_reading : Ty → List ℕ → Reading
text_reading (Fix t) bytes = parts_reading (Fix t) (number_parts bytes)
text_reading Bit bytes =
    if bytes_eq bytes (codes "true") then Word 1
    else if bytes_eq bytes (codes "false") then Word 0
    else parts_reading Bit (number_parts bytes)

-- a boolean is a word of a `Bit` alone
abbrev pub boolean_reading : Ty → Bool → Reading
boolean_reading (Fix t) b = NoNumber
boolean_reading Bit b = Word (if b then 1 else 0)

-- a value of the setup: an integer, a boolean or a text
unfoldable pub data_reading : Ty → Data → Reading
data_reading ty (integer z) = number_reading ty (int_lt z (pos 0)) (unsigned_abs z) []
data_reading ty (boolean b) = boolean_reading ty b
data_reading ty (string s) = text_reading ty s
data_reading ty (float x) = NoNumber
data_reading ty (datetime d) = NoNumber
data_reading ty (array xs) = NoNumber
data_reading ty (table t) = NoNumber
