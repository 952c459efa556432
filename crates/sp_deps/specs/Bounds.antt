-- How far the ends of sums go, so that they stay within 128 bits.
use Rattle.std.specs.Prelude.{ℕ, ◌+◌, ◌*◌, ◌^◌, ◌≤◌, ◌<◌, ℤ, List, length, Option, IfSome, unsigned_abs}
use Rattle.std.specs.List.{All}
use Rattle.sp_deps.specs.declared.access.LoopRange.{LoopRange}
use Rattle.sp_deps.specs.declared.class.Class.{Class}
use Rattle.sp_deps.specs.declared.class.Class.TheVariants.{Steps}
use Rattle.sp_deps.specs.declared.sum.Range.{Range}
use Rattle.sp_deps.specs.declared.sum.Sum.{Sum}
use Rattle.sp_deps.specs.Access.{HasRange}
use Rattle.sp_deps.specs.Classes.{Loops}
use Rattle.sp_deps.specs.Sums.{least_of, greatest_of}

-- an end, if there is one, is at most n times 2^115: a coefficient of 64 bits times an end of 53
abbrev pub IsEndWithin : ℕ → Option ℤ → Type 0
IsEndWithin n e = IfSome e (λ z. unsigned_abs z ≤ n * 2 ^ 115)

-- both ends of a sum
pub record IsWithin (n : ℕ) (s : Sum) : Type 0 where
  pub least : IsEndWithin n s.least
  pub greatest : IsEndWithin n s.greatest

-- both ends of a term
pub record IsTermWithin (n : ℕ) (c : ℤ) (r : Range) : Type 0 where
  pub least : IsEndWithin n (least_of c r)
  pub greatest : IsEndWithin n (greatest_of c r)

-- the coefficients of a form: at most 1024, the last of which belong to the counters of the loop and to the access's own, and
-- whose ranges are ranges
pub record HasCounters (common own : List LoopRange) (coefs : List ℤ) : Type 0 where
  pub few : length coefs ≤ 1024
  pub inside : length common + length own ≤ length coefs

pub record AreRanges (loops : Loops) : Type 0 where
  pub common : All HasRange loops.common
  pub first : All HasRange loops.first
  pub second : All HasRange loops.second

-- where a class is a number of steps, the divisor has 64 bits
abbrev pub IsNarrowIn : Class → Sum → Type 0
IsNarrowIn (Steps t) s = s.divisor < 2 ^ 64
IsNarrowIn _ s = Unit {0}
