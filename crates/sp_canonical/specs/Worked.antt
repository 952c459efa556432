-- Texts with many brackets.
use Rattle.std.specs.Prelude.{ℕ, zero, suc, [], ◌∷◌, ◌++◌, codes}
use Rattle.sp_reader.specs.Steps.{Text}

-- a byte so many times
abbrev pub times : ℕ → ℕ → Text
times zero b = []
times (suc n) b = b ∷ times n b

-- a block that writes 1 in so many parentheses
abbrev pub enclosed : ℕ → Text
enclosed n = codes "Accel { a := " ++ (times n 40 ++ (codes "1" ++ (times n 41 ++ codes " }")))
