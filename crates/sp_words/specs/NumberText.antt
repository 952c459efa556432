-- How decimal numbers are written, and what a reading of a printed word has.
use Rattle.std.specs.Prelude.{◌≡◌, ℕ, ◌+◌, ◌*◌, ◌^◌, ◌<◌, ◌≤◌, Bool, List, [], ◌∷◌, ◌++◌, length, map, unsigned_abs, if◌then◌else◌}
use Rattle.sp_words.specs.declared.types.Ty.{Ty}
use Rattle.sp_words.specs.Decimal.{AreDigits, digits_number, decimal_value, with_point}
use Rattle.sp_words.specs.Types.{frac_of}
use Rattle.sp_words.specs.Words.{has_sign, value_of}

-- the characters of digits
abbrev pub digit_bytes : List ℕ → List ℕ
digit_bytes ds = map (λ digit. 48 + digit) ds

-- a minus sign, or nothing
abbrev pub sign_bytes : Bool → List ℕ
sign_bytes negative = if negative then 45 ∷ [] else []

-- the bytes are an optional minus sign, at least one digit, and then nothing or a point and at least one digit.
-- `whole` is the number of the digits before the point, the first of which may be zeros, and `digits` are those
-- after it. So `-0.0` is a text with a minus sign, whose number is 0.
pub record IsNumberText (bytes : List ℕ) (negative : Bool) (whole : ℕ) (digits : List ℕ) : Type 0 where
  pub before : List ℕ
  pub some : 1 ≤ length before
  pub are_digits : AreDigits before × AreDigits digits
  pub number : digits_number before ≡ whole
  pub written : bytes ≡ sign_bytes negative ++ digit_bytes before ++ with_point digits

-- the number `whole.digits` with its sign is what the word means, to the last digit: its value over 2 ^ frac
pub record IsExactly (ty : Ty) (word : ℕ) (negative : Bool) (whole : ℕ) (digits : List ℕ) : Type 0 where
  pub sign : negative ≡ has_sign ty word
  pub size : (whole * 10 ^ length digits + digits_number digits) * 2 ^ frac_of ty ≡ unsigned_abs (value_of ty word) * 10 ^ length digits

-- parts that `of_decimal` takes, and from which it makes the word
pub record ReadsAs (ty : Ty) (word : ℕ) (negative : Bool) (whole : ℕ) (digits : List ℕ) : Type 0 where
  pub fits : whole < 2 ^ 128
  pub few : length digits ≤ 64
  pub are_digits : AreDigits digits
  pub value : decimal_value ty negative whole digits ≡ value_of ty word
