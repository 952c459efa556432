-- What a contract sees of packed words.
use Rattle.std.specs.Prelude.{◌≡◌, ℕ, ◌⊎◌, List, refl}
use Rattle.std.specs.Coded.{Coded, code_by, coded×, coded_list, coded_ℕ}

-- the numbers, in order, and how many bytes each of them has
pub record Elements : Type 0 where
  pub bytes_each : ℕ
  pub numbers : List ℕ

abbrev pub elements : ℕ → List ℕ → Elements
elements w ns = record { bytes_each = w; numbers = ns }

-- a width in bytes that an element may have
abbrev pub IsWidth : ℕ → Type 0
IsWidth w = (w ≡ 1) ⊎ (w ≡ 2) ⊎ (w ≡ 4) ⊎ (w ≡ 8)

abbrev pub elements_code : Coded Elements
elements_code = code_by (ℕ × List ℕ) (coded× coded_ℕ (coded_list coded_ℕ)) (λ e. (e.bytes_each, e.numbers)) (λ p. elements p.0 p.1) (λ _. refl)
