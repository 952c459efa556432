-- Runs of bytes.
use Rattle.std.specs.Prelude.{ℕ, ◌+◌, Bool, not, ◌||◌, ◌==◌, List, drop}
use Rattle.std.specs.Char.{is_ascii_digit, is_ascii_hexdigit, is_ascii_alphanumeric}
use Rattle.std.specs.List.{prefix_len}
use Rattle.sp_reader.specs.declared.class.Class.{Class}
use Rattle.sp_reader.specs.declared.class.Class.TheVariants as class

abbrev pub is_in : Class → ℕ → Bool
is_in class.Digit b = is_ascii_digit b
is_in class.Hex b = is_ascii_hexdigit b
is_in class.Word b = is_ascii_alphanumeric b || b == 95
is_in class.Line b = not (b == 10)
is_in class.Whole b = not (b == 46)

-- the first place from `at` on whose byte isn't of the class
abbrev pub past : Class → List ℕ → ℕ → ℕ
past class text at = at + prefix_len (is_in class) (drop at text)
