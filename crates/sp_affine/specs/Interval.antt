-- The values that a form without a symbol takes over a box, which gives each counter a range with both its ends.
use Rattle.std.specs.Prelude.{◌≡◌, ℕ, ℤ, pos, negsuc, neg_ℤ, ◌*ℤ◌, ◌≤ℤ◌, ◌^◌, List, [], ◌∷◌}
use Rattle.sp_affine.specs.Affine.{Affine, value_of}

-- the range of a counter: its ends in order, and neither past 2 ^ 52
pub record IsCounterRange (r : ℤ × ℤ) : Type 0 where
  pub ordered : r.0 ≤ℤ r.1
  pub low : neg_ℤ (pos (2 ^ 52)) ≤ℤ r.0
  pub high : r.1 ≤ℤ pos (2 ^ 52)

-- a value for each range, and in it
abbrev pub InBox : List (ℤ × ℤ) → List ℤ → Type 0
InBox [] [] = Unit {0}
InBox [] (x ∷ xs) = ⊥
InBox (r ∷ rs) [] = ⊥
InBox (r ∷ rs) (x ∷ xs) = (r.0 ≤ℤ x) × (x ≤ℤ r.1) × InBox rs xs

-- the form has this value somewhere in the box, whatever values symbols have
abbrev pub IsReached : Affine → List (ℤ × ℤ) → ℤ → Type 0
IsReached f ranges v = (counters : List ℤ) × InBox ranges counters × ((symbols : ℕ → ℤ) → value_of f counters symbols ≡ v)

-- the least and the greatest value over the box: all its values lie between the two, and both are values of it
pub record IsRange (f : Affine) (ranges : List (ℤ × ℤ)) (low high : ℤ) : Type 0 where
  pub above_low : (counters : List ℤ) (symbols : ℕ → ℤ) → InBox ranges counters → low ≤ℤ value_of f counters symbols
  pub below_high : (counters : List ℤ) (symbols : ℕ → ℤ) → InBox ranges counters → value_of f counters symbols ≤ℤ high
  pub low_reached : IsReached f ranges low
  pub high_reached : IsReached f ranges high

-- the least and the greatest of a coefficient's products with the numbers of a range: a coefficient below 0 turns the range round
abbrev pub least_product : ℤ → ℤ × ℤ → ℤ
least_product (pos n) r = pos n *ℤ r.0
least_product (negsuc n) r = negsuc n *ℤ r.1

abbrev pub greatest_product : ℤ → ℤ × ℤ → ℤ
greatest_product (pos n) r = pos n *ℤ r.1
greatest_product (negsuc n) r = negsuc n *ℤ r.0
