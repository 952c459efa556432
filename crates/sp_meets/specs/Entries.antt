-- The meets of an access and of several, as they are collected.
use Rattle.std.specs.Prelude.{◌≡◌, ℕ, ◌≤◌, ◌<◌, Bool, true, false, ℤ, List, [], ◌∷◌, ◌++◌, Option, Some, None, nat_lt, if◌then◌else◌}
use Rattle.std.specs.List.{list_any}
use Rattle.sp_deps.specs.declared.access.Dist.{Dist}
use Rattle.sp_deps.specs.declared.access.Dist.TheVariants.{Never, AtLeast}
use Rattle.sp_deps.specs.declared.access.Footprint.{Footprint}
use Rattle.sp_deps.specs.declared.access.LoopRange.{LoopRange}
use Rattle.sp_core.specs.declared.access.Meet.{Meet}
use Rattle.sp_meets.specs.Sites.{PlainPart, PlainView, PlainSite}
use Rattle.sp_meets.specs.Between.{parts_meet_at}
use Rattle.sp_meets.specs.Plain.{plain_parts}
use Rattle.sp_meets.specs.Meets.{AreMeetsWith, AreMeetsAmong}

module _ (chip : ℕ) (v w : PlainView) (before : Bool) where
  -- whether some of these and some of those meet so many groups apart
  abbrev pub some_meet_at : (ps qs : List PlainPart) → (groups : ℕ) → Bool
  some_meet_at ps qs k = list_any (λ (p : PlainPart). list_any (λ (q : PlainPart). parts_meet_at chip v w before p q k) qs) ps

-- the lesser of two, where there are
abbrev pub sooner : Option ℕ → Option ℕ → Option ℕ
sooner None n = n
sooner (Some m) None = Some m
sooner (Some m) (Some n) = Some (if nat_lt n m then n else m)

-- the entries that were added
pub record HasEntriesWith (chip : ℕ) (a : PlainSite) (others : List PlainSite) (old new : List Meet) : Type 0 where
  pub added : List Meet
  pub is : new ≡ old ++ added
  pub right : AreMeetsWith chip a others added

pub record HasEntriesAmong (chip : ℕ) (firsts seconds : List PlainSite) (old new : List Meet) : Type 0 where
  pub added : List Meet
  pub is : new ≡ old ++ added
  pub right : AreMeetsAmong chip firsts seconds added

-- counters that are described alike; of two lists of one length
abbrev pub IsSameRange : Option (ℤ × ℤ) → Option (ℤ × ℤ) → Type 0
IsSameRange None None = Unit {0}
IsSameRange (Some r) (Some s) = (r.0 ≡ s.0) × (r.1 ≡ s.1)
IsSameRange _ _ = ⊥

abbrev pub IsSameLoop : LoopRange → LoopRange → Type 0
IsSameLoop a b = IsSameRange a.from b.from × ((a.by ≡ b.by) × (a.par ≡ b.par))

abbrev pub AreSameLoops : List LoopRange → List LoopRange → Type 0
AreSameLoops (a ∷ loops) (b ∷ others) = IsSameLoop a b × AreSameLoops loops others
AreSameLoops _ _ = Unit {0}

abbrev pub groups_of : Dist → Option ℕ
groups_of Never = None
groups_of (AtLeast k) = Some k

-- a part of one access
abbrev pub IsPart : Footprint → PlainPart → Type 0
IsPart p x = plain_parts p ≡ x ∷ []

-- the least number from one on that passes a test, where one does
abbrev pub IsLeastFrom : ℕ → (ℕ → Bool) → Option ℕ → Type 0
IsLeastFrom n passes None = (k : ℕ) → n ≤ k → passes k ≡ false
IsLeastFrom n passes (Some k) = (n ≤ k) × (passes k ≡ true) × ((j : ℕ) → n ≤ j → j < k → passes j ≡ false)
