-- The numbers of two copies for a slot that gets groups in cycles 1, 4 and 7, after a start in cycle 0.
--   cycle       0  1  2  3  4  5  6  7  8
--   start       1
--   first          1        1        1
--   number      1  1  0  0  0  1  1  1  0
--   coming      1  0  0  0  1  1  1  0  0
use Rattle.std.specs.Prelude.{◌≡◌, ℕ, zero, suc, ◌||◌, Bool, nat_eq, List, [], ◌∷◌, ◌++◌}
use Rattle.sp_beat_words.specs.Numbers.{coming_number, copy_number}

abbrev pub start : ℕ → Bool
start t = nat_eq t 0

abbrev pub first : ℕ → Bool
first t = nat_eq t 1 || (nat_eq t 4 || nat_eq t 7)

-- the numbers in the first cycles
abbrev pub row : (ℕ → ℕ) → (cycles : ℕ) → List ℕ
row number zero = []
row number (suc t) = row number t ++ number t ∷ []

pub record WorkedNumbers : Type 0 where
  pub numbers : row (copy_number start first 2) 9 ≡ 1 ∷ 1 ∷ 0 ∷ 0 ∷ 0 ∷ 1 ∷ 1 ∷ 1 ∷ 0 ∷ []
  pub coming : row (coming_number start first 2) 9 ≡ 1 ∷ 0 ∷ 0 ∷ 0 ∷ 1 ∷ 1 ∷ 1 ∷ 0 ∷ 0 ∷ []
  pub alone : row (coming_number start first 1) 9 ≡ 0 ∷ 0 ∷ 0 ∷ 0 ∷ 0 ∷ 0 ∷ 0 ∷ 0 ∷ 0 ∷ []
