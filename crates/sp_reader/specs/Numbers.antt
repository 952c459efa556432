-- The numbers that tokens spell.
use Rattle.std.specs.Prelude.{ℕ, ◌+◌, ◌-◌, ◌*◌, ◌^◌, ◌==◌, ◌&&◌, ◌||◌, not, nat_le, nat_lt, Bool, if◌then◌else◌, List, [], ◌∷◌, length, map, take, drop, slice_index, Option, Some, None, is_none, option_and_then}
use Rattle.sp_reader.specs.declared.class.Class.TheVariants.{Whole}
use Rattle.sp_reader.specs.Classes.{past}
use Rattle.sp_reader.specs.Steps.{Text}

-- what a digit stands for, up to 15
unfoldable pub digit : ℕ → ℕ
digit b =
    if nat_le 48 b && nat_le b 57 then b - 48
    else (if nat_le 97 b && nat_le b 102 then b - 87 else (if nat_le 65 b && nat_le b 70 then b - 55 else 0))

-- the number with one more digit, or None where it is 2 ^ 128 or more
unfoldable pub with_digit : ℕ → ℕ → ℕ → Option ℕ
with_digit radix value b = if nat_lt (value * radix + digit b) (2 ^ 128) then Some (value * radix + digit b) else None

-- the number of these digits after those of `value`, or None where it is 2 ^ 128 or more
abbrev pub number_from : ℕ → ℕ → Text → Option ℕ
number_from radix value [] = Some value
number_from radix value (b ∷ bs) = option_and_then (λ more. number_from radix more bs) (with_digit radix value b)

-- where the point stands, or the length
abbrev pub point : Text → ℕ
point text = past Whole text 0

abbrev pub after_point : Text → Text
after_point [] = []
after_point (b ∷ digits) = digits

-- the digits after the point
unfoldable pub fraction : Text → Text
fraction text = after_point (drop (point text) text)

abbrev pub is_hex : Text → Bool
is_hex text = slice_index text 0 == 48 && slice_index text 1 == 120

-- the whole part, or None where it is 2 ^ 128 or more
unfoldable pub whole : Text → Option ℕ
whole text = if is_hex text then number_from 16 0 (drop 2 text) else number_from 10 0 (take (point text) text)

unfoldable pub has_point : Text → Bool
has_point text = nat_lt 0 (length (fraction text))

unfoldable pub is_too_wide : Text → Bool
is_too_wide text = is_none (whole text) || nat_lt 64 (length (fraction text))

abbrev pub fraction_digits : Text → List ℕ
fraction_digits text = map digit (fraction text)

abbrev pub at_most_64 : Option ℕ → ℕ
at_most_64 (Some n) = if nat_le n 64 then n else 65
at_most_64 None = 65

-- the width of a width token's text, 65 where it is more than 64
unfoldable pub width : Text → ℕ
width text = at_most_64 (number_from 10 0 (drop 1 text))
