-- How many steps of the last counter have to be tried.
use Rattle.std.specs.Prelude.{◌≡◌, ℕ, ◌+◌, ◌*◌, ◌<◌, ◌≤◌, Bool, true, false, ◌⊎◌, ℤ, List, [], ◌∷◌, length, Option, Some, unsigned_abs}
use Rattle.sp_affine.specs.Affine.{Affine}
use Rattle.sp_deps.specs.declared.access.Dist.{Dist}
use Rattle.sp_deps.specs.declared.access.Footprint.{Footprint}
use Rattle.sp_deps.specs.declared.class.Class.TheVariants.{Steps}
use Rattle.sp_deps.specs.Access.{PlainAccess}
use Rattle.sp_deps.specs.declared.access.LoopRange.{LoopRange}
use Rattle.sp_deps.specs.Classes.{Loops, is_open, is_ruled_out, of_common, of_own, last_step}
use Rattle.sp_deps.specs.Distances.{ArePresentAndParallel, steps_may_meet, IsDistanceOver}
use Rattle.sp_deps.specs.Stages.{loops_between, plain_accesses, stages_meet}
use Rattle.sp_meets.specs.Bits.{PassesBits, IsFar, IsPeriod, SomeFar, IsProduct, NumbersPass}
use Rattle.sp_meets.specs.Reach.{reach, unbounded}
use Rattle.sp_meets.specs.declared.least.Linear.{Linear}
use Rattle.sp_meets.specs.declared.least.Linear.TheVariants.{Other, Equal, TooMany}
use Rattle.sp_meets.specs.declared.steps.Tries.{Tries}
use Rattle.sp_meets.specs.declared.steps.Tries.TheVariants.{Every, UpTo, Unknown}

abbrev pub loops_of : (common first second : List LoopRange) → Loops
loops_of common first second = record { common = common; first = first; second = second }

-- of one index: that many steps more do the same, or none past a number is open; or numbers pass 64 bits
abbrev pub AreTriesOf : Loops → Affine → Affine → Tries → Type 0
AreTriesOf loops f g (Every p) = (1 ≤ p) × ((t : ℕ) → is_ruled_out loops f g (Steps (t + p)) ≡ is_ruled_out loops f g (Steps t)) × IsPeriod loops f g p
AreTriesOf loops f g (UpTo n) = (1 ≤ n) × ((t : ℕ) → n < t → is_ruled_out loops f g (Steps t) ≡ true) × IsFar loops f g n
AreTriesOf loops f g Unknown = (n : ℕ) × PassesBits n × IsFar loops f g n

-- the same of all indices
abbrev pub AreTriesOfAll : Loops → List Affine → List Affine → Tries → Type 0
AreTriesOfAll loops fs gs (Every p) = (1 ≤ p) × ((t : ℕ) → is_open loops (Steps (t + p)) fs gs ≡ is_open loops (Steps t) fs gs) × IsProduct loops fs gs p
AreTriesOfAll loops fs gs (UpTo n) = (1 ≤ n) × ((t : ℕ) → n < t → is_open loops (Steps t) fs gs ≡ false) × SomeFar loops fs gs n
AreTriesOfAll loops fs gs Unknown = NumbersPass loops fs gs

-- of one index and the others, by what is known of each
abbrev pub IsBoth : (p q : ℕ) → Tries → Type 0
IsBoth p q (Every n) = n ≡ p * q
IsBoth p q (UpTo n) = ⊥
IsBoth p q Unknown = PassesBits (p * q)

abbrev pub IsJoined : (one rest result : Tries) → Type 0
IsJoined (Every p) (Every q) r = IsBoth p q r
IsJoined (Every p) (UpTo n) r = r ≡ UpTo n
IsJoined (Every p) Unknown r = r ≡ Unknown
IsJoined (UpTo n) rest r = r ≡ UpTo n
IsJoined Unknown (Every q) r = r ≡ Unknown
IsJoined Unknown (UpTo n) r = r ≡ UpTo n
IsJoined Unknown Unknown r = r ≡ Unknown

-- so many steps are further than the start and both reaches together, and not more of them than these
pub record IsPast (start p q step n : ℕ) : Type 0 where
  pub some : 1 ≤ n
  pub near : n ≤ start + (p + q) + 1
  pub past : (t : ℕ) → n < t → start + (p + q) < step * t

-- why that is so: the last counter doesn't count; a counter without a known range takes the index as far as one likes; or so many
-- steps are past all that own counters reach, which may pass 64 bits
module _ (common first second : List LoopRange) (xs ys : List ℤ) (start : ℕ) where
  abbrev pub AreTriesBy : Tries → Type 0
  AreTriesBy (Every p) =
      ((unsigned_abs (last_step (of_common common second ys) common) ≡ 0) × (p ≡ 1))
      ⊎ ((unbounded (of_own common first xs) first ≡ Some p) ⊎ (unbounded (of_own common second ys) second ≡ Some p))
  AreTriesBy (UpTo n) =
      (p q : ℕ) × (reach (of_own common first xs) first ≡ Some p) × (reach (of_own common second ys) second ≡ Some q)
      × IsPast start p q (unsigned_abs (last_step (of_common common second ys) common)) n
  AreTriesBy Unknown =
      (p q : ℕ) × (reach (of_own common first xs) first ≡ Some p) × (reach (of_own common second ys) second ≡ Some q) × PassesBits (start + (p + q) + 1)

-- of all indices: where a number of steps past that one is open, one of those up to it is
pub record IsMost (loops : Loops) (fs gs : List Affine) (n : ℕ) : Type 0 where
  pub some : 1 ≤ n
  pub enough : (t : ℕ) → n < t → is_open loops (Steps t) fs gs ≡ true → (s : ℕ) × (1 ≤ s) × (s ≤ n) × (is_open loops (Steps s) fs gs ≡ true)

-- whether two parts meet so many groups apart, or less
abbrev pub parts_meet : Footprint → Footprint → ℕ → Bool
parts_meet a b n = stages_meet (loops_between a b) (plain_accesses a) (plain_accesses b) n

-- the first number from above `low` up to `high` at which two parts meet; where there is none below `high`, that one
pub record IsFirst (a b : Footprint) (low high n : ℕ) : Type 0 where
  pub above : low < n
  pub within : n ≤ high
  pub meets : n < high → parts_meet a b n ≡ true
  pub first : (t : ℕ) → 1 ≤ t → t < n → parts_meet a b t ≡ false

-- two parts are one access each
abbrev pub IsOne : Footprint → PlainAccess → Type 0
IsOne a x = plain_accesses a ≡ x ∷ []

-- why it isn't known how many steps have to be tried: the accesses haven't as many counters of their own, or numbers pass 64 bits
abbrev pub IsUnknown : Loops → Option (List Affine) → Option (List Affine) → Type 0
IsUnknown loops (Some fs) (Some gs) = (length loops.first ≡ length loops.second → ⊥) ⊎ NumbersPass loops fs gs
IsUnknown loops first second = ⊥

-- how the linear parts of two accesses are: not equal; equal, where numbers of steps up to this one have to be tried; or equal,
-- where that isn't known
abbrev pub IsLinearOf : Loops → Option (List Affine) → Option (List Affine) → Linear → Type 0
IsLinearOf loops first second Other = ArePresentAndParallel first second → ⊥
IsLinearOf loops first second (Equal n) = ArePresentAndParallel first second × ((t : ℕ) → n + 1 ≤ t → steps_may_meet loops first second t ≡ true → (s : ℕ) × (1 ≤ s) × (s ≤ n) × (steps_may_meet loops first second s ≡ true)) × (1 ≤ n) × (PassesBits n → IsUnknown loops first second)
IsLinearOf loops first second TooMany = ArePresentAndParallel first second × IsUnknown loops first second

-- the distance of two parts of one access each, which can meet
abbrev pub IsDistanceOf : (a b : Footprint) → (x y : PlainAccess) → Dist → Type 0
IsDistanceOf a b x y d = IsDistanceOver (loops_between a b) x.forms y.forms (length (loops_between a b).common) d
