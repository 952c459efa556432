-- The meets of a core: of each ordered pair of accesses that meet, the least number of groups that they are apart.
use Rattle.std.specs.Prelude.{◌≡◌, ℕ, zero, suc, ◌<◌, Bool, true, false, if◌then◌else◌, List, [], ◌∷◌, ◌++◌, length, flat_map, Option, Some, None}
use Rattle.sp_core.specs.declared.access.Meet.{Meet}
use Rattle.sp_core.specs.Forms.{PlainForms}
use Rattle.sp_core.specs.PlainCore.{PlainCore}
use Rattle.sp_meets.specs.Sites.{PlainSite, sites}
use Rattle.sp_meets.specs.Between.{meet_at}

-- the least number that passes a test, where one does
abbrev pub IsLeastOf : (ℕ → Bool) → Option ℕ → Type 0
IsLeastOf passes None = (k : ℕ) → passes k ≡ false
IsLeastOf passes (Some k) = (passes k ≡ true) × ((j : ℕ) → j < k → passes j ≡ false)

abbrev pub entry : PlainSite → PlainSite → Option ℕ → List Meet
entry a b None = []
entry a b (Some k) = record { first = a.number; second = b.number; least = k } ∷ []

module _ (chip : ℕ) where
  -- the entries of an access with others, one after the other
  abbrev pub AreMeetsWith : PlainSite → List PlainSite → List Meet → Type 0
  AreMeetsWith a [] meets = meets ≡ []
  AreMeetsWith a (b ∷ rest) meets =
      (least : Option ℕ) × (others : List Meet) × IsLeastOf (meet_at chip a b) least × (meets ≡ entry a b least ++ others) × AreMeetsWith a rest others

  abbrev pub AreMeetsAmong : (firsts seconds : List PlainSite) → List Meet → Type 0
  AreMeetsAmong [] seconds meets = meets ≡ []
  AreMeetsAmong (a ∷ rest) seconds meets =
      (with_first : List Meet) × (others : List Meet) × AreMeetsWith a seconds with_first × (meets ≡ with_first ++ others) × AreMeetsAmong rest seconds others

abbrev pub IsMeetsOf : PlainCore → PlainForms → List Meet → Type 0
IsMeetsOf core patterns meets = AreMeetsAmong (length core.mems) (sites core patterns) (sites core patterns) meets

-- those that meet less than so many groups apart, which can be computed
abbrev pub first_from : (k count : ℕ) → (ℕ → Bool) → Option ℕ
first_from k zero passes = None
first_from k (suc count) passes = if passes k then Some k else first_from (suc k) count passes

abbrev pub meets_below : (groups : ℕ) → PlainCore → PlainForms → List Meet
meets_below n core patterns =
    flat_map (λ a. flat_map (λ b. entry a b (first_from 0 n (meet_at (length core.mems) a b))) (sites core patterns)) (sites core patterns)
