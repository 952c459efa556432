-- How a memory of one to three dimensions is divided into banks, after Wang, Li and Cong, "Theory and algorithm for generalized memory partitioning" (FPGA 2014).
use Rattle.std.specs.Prelude.{◌≡◌, ℕ, ◌*◌, ◌<◌, ◌≤◌, ◌⊎◌, List, length, slice_index}
use Rattle.std.specs.List.{All}
use Rattle.std.specs.Int.{IsGcd}

-- the number of banks, how many places in a row stand in one bank, a weight for each dimension, and the dimension along which a bank is filled
pub record Banking : Type 0 where
  pub banks : ℕ
  pub block : ℕ
  pub alpha : List ℕ
  pub hinge : ℕ

-- the sizes that are searched, for a memory of one to three dimensions
pub record IsAllowedSize (banks block rank hinge : ℕ) : Type 0 where
  pub some_bank : 1 ≤ banks
  pub few_banks : banks ≤ 32
  pub allowed_block : (block ≡ 1) ⊎ ((block ≡ 2) ⊎ (block ≡ 4))
  pub some_dimension : 1 ≤ rank
  pub few_dimensions : rank ≤ 3
  pub hinge_place : hinge < rank

-- the bankings that are searched: each weight is below the number of banks, and that of the hinge has no divisor in common with the period, so that the places along it come round again no earlier
pub record InSpace (s : Banking) : Type 0 where
  pub size : IsAllowedSize s.banks s.block (length s.alpha) s.hinge
  pub weights : All (λ a. a < s.banks) s.alpha
  pub hinge : IsGcd (slice_index s.alpha s.hinge) (s.banks * s.block) 1

-- after so many places in a row the banks come round again
abbrev pub period : Banking → ℕ
period s = s.banks * s.block
