-- The first scheme that keeps all groups of a memory apart.
use Rattle.std.specs.Prelude.{◌≡◌, ℕ, zero, suc, ◌/◌, ◌%◌, ◌^◌, ◌<◌, ◌⊎◌, List, [], ◌∷◌, length}
use Rattle.std.specs.List.{All}
use Rattle.sp_affine.specs.Affine.{Affine}
use Rattle.sp_bank.specs.Banking.{Banking, InSpace}
use Rattle.sp_bank.specs.Separation.{Separates}

-- the scheme separates each group
abbrev pub SeparatesAll : Banking → List (List Affine) → Type 0
SeparatesAll b groups = All (Separates b) groups

-- at the first number that differs, that of xs is less
abbrev pub IsLexicographicallyLess : List ℕ → List ℕ → Type 0
IsLexicographicallyLess [] ys = ⊥
IsLexicographicallyLess (x ∷ xs) [] = ⊥
IsLexicographicallyLess (x ∷ xs) (y ∷ ys) = (x < y) ⊎ ((x ≡ y) × IsLexicographicallyLess xs ys)

-- fewer banks go first, then shorter blocks, then the lexicographically lesser weights, then the earlier hinge
abbrev pub Precedes : Banking → Banking → Type 0
Precedes s t =
    (s.banks < t.banks) ⊎ ((s.banks ≡ t.banks) × ((s.block < t.block) ⊎ ((s.block ≡ t.block) ×
    (IsLexicographicallyLess s.alpha t.alpha ⊎ ((s.alpha ≡ t.alpha) × (s.hinge < t.hinge))))))

-- a scheme of the space for so many dimensions that separates all groups
pub record Serves (rank : ℕ) (groups : List (List Affine)) (s : Banking) : Type 0 where
  pub space : InSpace s
  pub rank_is : length s.alpha ≡ rank
  pub separates : SeparatesAll s groups

-- no scheme that serves precedes this one
pub record IsFirst (rank : ℕ) (groups : List (List Affine)) (s : Banking) : Type 0 where
  pub serves : Serves rank groups s
  pub first : (t : Banking) → Serves rank groups t → ¬ (Precedes t s)

-- the digits of a number to a base, so many and the highest first
abbrev pub digits : ℕ → ℕ → ℕ → List ℕ
digits zero base number = []
digits (suc n) base number = (number / base ^ n) ∷ digits n base (number % base ^ n)

-- banks, blocks and weights alone: which accesses are apart does not hang on the hinge
abbrev pub unhinged : ℕ → ℕ → List ℕ → Banking
unhinged banks block alpha = record { banks = banks; block = block; alpha = alpha; hinge = 0 }

-- no scheme of these sizes whose weights have this number serves
abbrev pub HasNoneAt : ℕ → ℕ → ℕ → ℕ → List (List Affine) → Type 0
HasNoneAt rank banks block code groups =
    (t : Banking) → Serves rank groups t → t.banks ≡ banks → t.block ≡ block → t.alpha ≡ digits rank banks code → ⊥
