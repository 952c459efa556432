-- The least distance at which two accesses may meet, in groups of the iterations of a loop.
use Rattle.std.specs.Prelude.{◌≡◌, ℕ, zero, suc, ◌+◌, ◌-◌, ◌<◌, ◌≤◌, Bool, true, false, ◌||◌, if◌then◌else◌, List, [], ◌∷◌, length, Option, Some}
use Rattle.sp_affine.specs.Affine.{Affine}
use Rattle.sp_deps.specs.declared.access.Dist.{Dist}
use Rattle.sp_deps.specs.declared.access.Dist.TheVariants.{Never, AtLeast}
use Rattle.sp_deps.specs.declared.access.LoopRange.{LoopRange}
use Rattle.sp_deps.specs.declared.class.Class.TheVariants.{Same, Steps, Earlier}
use Rattle.sp_deps.specs.Access.{PlainAccess, can_meet}
use Rattle.sp_deps.specs.Classes.{Loops, may_meet}

-- all loops are common
abbrev pub all_common : List LoopRange → Loops
all_common loops = record { common = loops; first = []; second = [] }

-- the least number from 1 that passes a test, or none
abbrev pub IsLeast : (ℕ → Bool) → Dist → Type 0
IsLeast passes Never = (t : ℕ) → 1 ≤ t → passes t ≡ false
IsLeast passes (AtLeast k) = (1 ≤ k) × (passes k ≡ true) × ((t : ℕ) → 1 ≤ t → t < k → passes t ≡ false)

-- the least number from 1 to n that passes a test, or n + 1
abbrev pub IsLeastUpTo : (most : ℕ) → (ℕ → Bool) → Dist → Type 0
IsLeastUpTo n passes Never = ⊥
IsLeastUpTo n passes (AtLeast k) = (1 ≤ k) × (k ≤ n + 1) × (k ≤ n → passes k ≡ true) × ((t : ℕ) → 1 ≤ t → t < k → passes t ≡ false)

-- each index has the same coefficients and the same symbol in both
abbrev pub AreParallel : List Affine → List Affine → Type 0
AreParallel (f ∷ fs) (g ∷ gs) = ((f.coefs ≡ g.coefs) × (f.symbol ≡ g.symbol)) × AreParallel fs gs
AreParallel _ _ = Unit {0}

abbrev pub ArePresentAndParallel : Option (List Affine) → Option (List Affine) → Type 0
ArePresentAndParallel (Some fs) (Some gs) = AreParallel fs gs
ArePresentAndParallel _ _ = ⊥

module _ (loops : Loops) (first second : Option (List Affine)) where
  -- whether some of the first n classes of earlier counters isn't ruled out; all but the last counter are earlier
  abbrev pub earlier_may_meet : ℕ → Bool
  earlier_may_meet zero = false
  earlier_may_meet (suc n) = earlier_may_meet n || may_meet loops (Earlier n) first second

  abbrev pub steps_may_meet : ℕ → Bool
  steps_may_meet t = may_meet loops (Steps t) first second

  -- the distance of two accesses that can meet, over so many counters
  pub record IsDistanceOver (counters : ℕ) (d : Dist) : Type 0 where
    -- without counters there is one group
    pub one_group : counters ≡ 0 → d ≡ (if may_meet loops Same first second then AtLeast 0 else Never)
    -- an earlier counter may go on from one group to the next
    pub by_earlier : 0 < counters → earlier_may_meet (counters - 1) ≡ true → d ≡ AtLeast 1
    -- equal linear parts: the least number of steps of the last counter
    pub parallel : 0 < counters → earlier_may_meet (counters - 1) ≡ false → ArePresentAndParallel first second → IsLeast steps_may_meet d
    -- else the least one of 64
    pub slanted : 0 < counters → earlier_may_meet (counters - 1) ≡ false → ¬ (ArePresentAndParallel first second) → IsLeastUpTo 64 steps_may_meet d

-- the distance of two accesses over the counters of a loop
pub record IsDistance (a b : PlainAccess) (loops : List LoopRange) (d : Dist) : Type 0 where
  pub apart : can_meet a b ≡ false → d ≡ Never
  pub together : can_meet a b ≡ true → IsDistanceOver (all_common loops) a.forms b.forms (length loops) d
