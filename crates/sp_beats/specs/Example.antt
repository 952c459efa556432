-- Two groups in two slots, whose beats take three cycles each:
--   cycle                0  1  2  3  4  5  6  7  8  9  10
--   start                1
--   step                    1        1        1        1
--   one more group          1  1  1  1
--   first slot gets one     1        1
--   first slot has one         1  1  1  1  1  1
--   second slot gets one             1        1
--   second slot has one                 1  1  1  1  1  1
--   none comes                                         1
use Rattle.std.specs.Prelude.{◌≡◌, ℕ, zero, suc, ◌||◌, ◌&&◌, not, Bool, true, false, nat_eq, nat_le, List, [], ◌∷◌, ◌++◌}
use Rattle.sp_sequence.specs.declared.part.Slot.{Slot}
use Rattle.sp_beats.specs.Beats.{has_group, gets_group, some_comes}

abbrev pub start : ℕ → Bool
start t = nat_eq t 0

abbrev pub step : ℕ → Bool
step t = nat_eq t 1 || (nat_eq t 4 || (nat_eq t 7 || nat_eq t 10))

abbrev pub more : ℕ → Bool
more t = nat_le 1 t && nat_le t 4

abbrev pub second : ℕ → Bool
second t = has_group start step more t

-- the cycles before one in which something is so
abbrev pub cycles_of : (ℕ → Bool) → ℕ → List ℕ
cycles_of wire zero = []
cycles_of wire (suc t) = elim (wire t) [ true ↦ cycles_of wire t ++ t ∷ [] | false ↦ cycles_of wire t ]

pub record WorkedBeats : Type 0 where
  pub first_gets : cycles_of (gets_group step more) 11 ≡ 1 ∷ 4 ∷ []
  pub first_has : cycles_of second 11 ≡ 2 ∷ 3 ∷ 4 ∷ 5 ∷ 6 ∷ 7 ∷ []
  pub second_gets : cycles_of (gets_group step second) 11 ≡ 4 ∷ 7 ∷ []
  pub second_has : cycles_of (has_group start step second) 11 ≡ 5 ∷ 6 ∷ 7 ∷ 8 ∷ 9 ∷ 10 ∷ []
  pub goes_on : (a b : Slot) → cycles_of (λ t. step t && some_comes start step more (a ∷ b ∷ []) t) 11 ≡ 1 ∷ 4 ∷ 7 ∷ []
  pub ends : (a b : Slot) → cycles_of (λ t. step t && not (some_comes start step more (a ∷ b ∷ []) t)) 11 ≡ 10 ∷ []
