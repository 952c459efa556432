-- What a decimal number means at a type, and the decimal number that a word means.
use Rattle.std.specs.Prelude.{ℕ, zero, suc, ◌+◌, ◌*◌, ◌/◌, ◌%◌, ◌^◌, ◌<◌, ◌==◌, Bool, ℤ, List, [], ◌∷◌, ◌++◌, length, map, unsigned_abs, if◌then◌else◌}
use Rattle.std.specs.Fmt.{decimal}
use Rattle.std.specs.List.{All}
use Rattle.sp_words.specs.declared.types.Ty.{Ty}
use Rattle.sp_words.specs.Types.{frac_of}
use Rattle.sp_words.specs.WholeNumbers.{floor_div, with_sign}
use Rattle.sp_words.specs.Words.{has_sign, value_of}

-- each of them is a decimal digit
abbrev pub AreDigits : List ℕ → Type 0
AreDigits ds = All (λ d. d < 10) ds

-- the whole number that has these decimal digits, the first of which counts most
abbrev pub digits_number : List ℕ → ℕ
digits_number [] = 0
digits_number (d ∷ ds) = d * 10 ^ length ds + digits_number ds

-- the number `whole.digits` with its sign, times 2 ^ frac, rounded down
abbrev pub decimal_value : Ty → Bool → ℕ → List ℕ → ℤ
decimal_value ty negative whole ds =
    floor_div (with_sign negative ((whole * 10 ^ length ds + digits_number ds) * 2 ^ frac_of ty)) (10 ^ length ds)

-- the digits after the point of n / 2 ^ f, for n below 2 ^ f, up to the last that is not 0: each is the whole
-- part of ten times what remains, and 10 * n / 2 ^ f is 5 * n / 2 ^ (f - 1)
unfoldable pub digits_after_point : ℕ → ℕ → List ℕ
digits_after_point zero n = []
digits_after_point (suc f) n = if n == 0 then [] else (5 * n / 2 ^ f) ∷ digits_after_point f (5 * n % 2 ^ f)

-- the parts of the number that a word means: before the point, and the digits after it
abbrev pub whole_part : Ty → ℕ → ℕ
whole_part ty w = unsigned_abs (value_of ty w) / 2 ^ frac_of ty

abbrev pub fraction_digits : Ty → ℕ → List ℕ
fraction_digits ty w = digits_after_point (frac_of ty) (unsigned_abs (value_of ty w) % 2 ^ frac_of ty)

-- the characters of digits, with a point before them where there are any
abbrev pub with_point : List ℕ → List ℕ
with_point [] = []
with_point (d ∷ ds) = 46 ∷ map (λ digit. 48 + digit) (d ∷ ds)

-- the text of that number: a minus sign where it is negative, the whole part and the digits after the point
unfoldable pub text_of : Ty → ℕ → List ℕ
text_of ty w = (if has_sign ty w then 45 ∷ [] else []) ++ decimal (whole_part ty w) ++ with_point (fraction_digits ty w)
