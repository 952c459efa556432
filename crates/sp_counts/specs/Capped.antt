-- Numbers as they are shown: a number past the greatest of 64 bits is shown as that one.
use Rattle.std.specs.Prelude.{ℕ, min}

abbrev pub most : ℕ
most = 18446744073709551615

abbrev pub capped : ℕ → ℕ
capped n = min n most
