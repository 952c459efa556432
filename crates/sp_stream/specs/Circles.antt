-- Ways over FIFOs, and circles.
use Rattle.std.specs.Prelude.{◌≡◌, ℕ, ◌==◌, Bool, false, true, List, [], ◌∷◌, Some}
use Rattle.std.specs.List.{list_any}
use Rattle.sp_core.specs.PlainCore.{PlainNode, PlainCore}
use Rattle.sp_stream.specs.Proper.{across}

-- none of a list is among those after it
abbrev pub AreApart : List ℕ → Type 0
AreApart [] = Unit {0}
AreApart (m ∷ rest) = (list_any (λ k. m == k) rest ≡ false) × AreApart rest

-- a number is in a list: each test that it passes is passed by one of them
abbrev pub IsOne : List ℕ → ℕ → Type 0
IsOne xs m = (test : ℕ → Bool) → test m ≡ true → list_any test xs ≡ true

abbrev pub AllOne : List ℕ → List ℕ → Type 0
AllOne xs [] = Unit {0}
AllOne xs (m ∷ way) = IsOne xs m × AllOne xs way

module _ (core : PlainCore) (nodes : List PlainNode) where
  -- over these FIFOs, one after the other, from a stage to another one
  abbrev pub Leads : (way : List ℕ) → (a b : ℕ) → Type 0
  Leads [] a b = a ≡ b
  Leads (m ∷ way) a b = (c : ℕ) × (across core nodes m a ≡ Some c) × Leads way c b

  -- some of these FIFOs, each once, that lead from a stage back to it
  pub record IsCircle (fifos : List ℕ) (first : ℕ) (others : List ℕ) (stage : ℕ) : Type 0 where
    pub apart : AreApart (first ∷ others)
    pub all : AllOne fifos (first ∷ others)
    pub leads : Leads (first ∷ others) stage stage
