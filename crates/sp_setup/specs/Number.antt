-- The parts of a number text: an optional minus sign, digits, and optionally a point and digits.
use Rattle.sp_words.specs.Decimal.{digits_number}
use Rattle.std.specs.Prelude.{◌≡◌, ℕ, ◌-◌, nat_le, Bool, true, false, ◌&&◌, ◌==◌, if◌then◌else◌, List, [], ◌∷◌, take, drop, length, map, Option, Some, None, option_map}
use Rattle.std.specs.List.{list_all, prefix_len}

-- a byte that writes a decimal digit
abbrev pub is_digit : ℕ → Bool
is_digit byte = nat_le 48 byte && nat_le byte 57

-- the digits that such bytes write
abbrev pub digits_of : List ℕ → List ℕ
digits_of bytes = map (λ byte. byte - 48) bytes

-- whether there is a minus sign, the digits before the point and those after it
pub record NumberParts : Type 0 where
  pub negative : Bool
  pub whole : List ℕ
  pub fraction : List ℕ

-- at least one digit, and nothing else
abbrev pub are_digits : List ℕ → Bool
are_digits bytes = nat_le 1 (length bytes) && list_all is_digit bytes

-- what follows the digits before the point: nothing, or a point and at least one digit
abbrev pub fraction_part : List ℕ → Option (List ℕ)
fraction_part [] = Some []
fraction_part (c ∷ bytes) = if (c == 46) && are_digits bytes then Some (digits_of bytes) else None

-- the parts of a text after its sign: at least one digit, then what follows
abbrev pub unsigned_parts : Bool → List ℕ → Option NumberParts
unsigned_parts negative bytes =
    if prefix_len is_digit bytes == 0
    then None
    else option_map
    (λ digits. record { negative = negative; whole = digits_of (take (prefix_len is_digit bytes) bytes); fraction = digits })
    (fraction_part (drop (prefix_len is_digit bytes) bytes))

-- the parts of a number text; none where the bytes are no such text
abbrev pub number_parts : List ℕ → Option NumberParts
number_parts [] = None
number_parts (c ∷ bytes) = if c == 45 then unsigned_parts true bytes else unsigned_parts false (c ∷ bytes)

-- the bytes have parts with this sign, this number before the point and these digits after it
pub record HasParts (bytes : List ℕ) (negative : Bool) (whole : ℕ) (fraction : List ℕ) : Type 0 where
  pub parts : NumberParts
  pub found : number_parts bytes ≡ Some parts
  pub sign : parts.negative ≡ negative
  pub number : digits_number parts.whole ≡ whole
  pub digits : parts.fraction ≡ fraction
