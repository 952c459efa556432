-- The least one of some numbers.
use Rattle.std.proofs.Common.{◌≡◌, ℕ, min, List, [], ◌∷◌, refl, arith}
use Rattle.sp_machine.specs.Timeline.{least}

-- of the two first ones the lesser one stands for both
pub least_of_two : (a b : ℕ) (slots : List ℕ) → least (min a b ∷ slots) ≡ least (a ∷ b ∷ slots)
least_of_two a b [] = refl
least_of_two a b (s ∷ slots) = omega arith
