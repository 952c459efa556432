-- Words of a type, the values that they stand for, and the operators on them. An operator is a rule on
-- values, whole numbers with a sign, whose result is then wrapped once.
use Rattle.std.specs.Prelude.{ℕ, ◌-◌, ◌^◌, ◌<◌, Bool, ◌&&◌, ℤ, pos, ◌+ℤ◌, ◌-ℤ◌, ◌*ℤ◌, int_lt, nat_le, ◌==◌, bit_and, bit_or, bit_xor, if◌then◌else◌}
use Rattle.sp_words.specs.declared.types.Ty.{Ty}
use Rattle.sp_words.specs.Types.{signed_of, frac_of, width_of}
use Rattle.sp_words.specs.WholeNumbers.{modulo, floor_div, quotient, remainder}

-- the words of a type are the numbers from 0 to 2 ^ width - 1
abbrev pub IsWord : Ty → ℕ → Type 0
IsWord ty w = w < 2 ^ width_of ty

-- whether a word has a sign bit that is set
unfoldable pub has_sign : Ty → ℕ → Bool
has_sign ty w = signed_of ty && nat_le (2 ^ (width_of ty - 1)) w

-- what a word stands for, in two's complement where the type has a sign; the number meant is that over 2 ^ frac
unfoldable pub value_of : Ty → ℕ → ℤ
value_of ty w = if has_sign ty w then pos w -ℤ pos (2 ^ width_of ty) else pos w

-- the word that a whole number leaves, modulo 2 ^ width
unfoldable pub wrap : Ty → ℤ → ℕ
wrap ty z = modulo z (2 ^ width_of ty)

-- sum, difference and product; the exact product is divided by 2 ^ frac and rounded down
unfoldable pub word_add : Ty → ℕ → ℕ → ℕ
word_add ty a b = wrap ty (value_of ty a +ℤ value_of ty b)

unfoldable pub word_sub : Ty → ℕ → ℕ → ℕ
word_sub ty a b = wrap ty (value_of ty a -ℤ value_of ty b)

unfoldable pub word_mul : Ty → ℕ → ℕ → ℕ
word_mul ty a b = wrap ty (floor_div (value_of ty a *ℤ value_of ty b) (2 ^ frac_of ty))

-- quotient and remainder: a * 2 ^ frac over b, rounded toward zero, where a / 0 is 0;
-- what b leaves of a, with the sign of a, where a % 0 is a
unfoldable pub word_div : Ty → ℕ → ℕ → ℕ
word_div ty a b = wrap ty (quotient (value_of ty a *ℤ pos (2 ^ frac_of ty)) (value_of ty b))

unfoldable pub word_rem : Ty → ℕ → ℕ → ℕ
word_rem ty a b = wrap ty (remainder (value_of ty a) (value_of ty b))

-- bit by bit
unfoldable pub word_and : Ty → ℕ → ℕ → ℕ
word_and ty a b = bit_and a b

unfoldable pub word_or : Ty → ℕ → ℕ → ℕ
word_or ty a b = bit_or a b

unfoldable pub word_xor : Ty → ℕ → ℕ → ℕ
word_xor ty a b = bit_xor a b

-- every bit turned
unfoldable pub word_not : Ty → ℕ → ℕ
word_not ty a = 2 ^ width_of ty - 1 - a

-- comparisons of values
unfoldable pub word_lt : Ty → ℕ → ℕ → Bool
word_lt ty a b = int_lt (value_of ty a) (value_of ty b)

unfoldable pub word_eq : Ty → ℕ → ℕ → Bool
word_eq ty a b = a == b

unfoldable pub word_min : Ty → ℕ → ℕ → ℕ
word_min ty a b = if word_lt ty b a then b else a

unfoldable pub word_max : Ty → ℕ → ℕ → ℕ
word_max ty a b = if word_lt ty a b then b else a

-- shifts: times 2 ^ by, and over 2 ^ by rounded down
unfoldable pub word_shl : Ty → ℕ → ℕ → ℕ
word_shl ty a by = wrap ty (value_of ty a *ℤ pos (2 ^ by))

unfoldable pub word_shr : Ty → ℕ → ℕ → ℕ
word_shr ty a by = wrap ty (floor_div (value_of ty a) (2 ^ by))

-- the same number at another type, rounded down
unfoldable pub word_cast : Ty → Ty → ℕ → ℕ
word_cast from to a = wrap to (floor_div (value_of from a *ℤ pos (2 ^ frac_of to)) (2 ^ frac_of from))
