-- Whether two parts of a loop's body may meet at some distances.
use Rattle.std.specs.Prelude.{ℕ, zero, suc, ◌-◌, ◌≤◌, ◌==◌, Bool, false, ◌&&◌, ◌||◌, not, if◌then◌else◌, List, length, map, take, drop, IfSome}
use Rattle.std.specs.List.{All, list_any}
use Rattle.sp_deps.specs.declared.access.Footprint.{Footprint}
use Rattle.sp_deps.specs.declared.class.Class.TheVariants.{Same, Steps}
use Rattle.sp_deps.specs.Access.{PlainAccess, plain_access, can_meet, HasRange}
use Rattle.sp_deps.specs.Bounds.{HasCounters}
use Rattle.sp_deps.specs.Classes.{Loops, may_meet}
use Rattle.sp_deps.specs.Distances.{earlier_may_meet}

-- the counters of the loop, which both parts have, and those of loops inside of each part
abbrev pub loops_between : Footprint → Footprint → Loops
loops_between a b = record { common = take a.common a.loops.items; first = drop a.common a.loops.items; second = drop b.common b.loops.items }

abbrev pub plain_accesses : Footprint → List PlainAccess
plain_accesses a = map plain_access a.accesses.items

module _ (loops : Loops) (a b : PlainAccess) where
  -- whether one of the first n numbers of steps isn't ruled out
  abbrev pub meets_up_to : ℕ → Bool
  meets_up_to zero = false
  meets_up_to (suc n) = meets_up_to n || may_meet loops (Steps (suc n)) a.forms b.forms

  -- whether two accesses meet at some distance from 1 to n: there is another group only where the loop has a counter
  abbrev pub meet_later : ℕ → Bool
  meet_later n = not (length loops.common == 0) && (earlier_may_meet loops a.forms b.forms (length loops.common - 1) || meets_up_to n)

  -- in one group for 0, and else at a distance from 1 to n
  abbrev pub meet_within : ℕ → Bool
  meet_within n = can_meet a b && (if n == 0 then may_meet loops Same a.forms b.forms else meet_later n)

-- some access of the one part and some access of the other
abbrev pub stages_meet : Loops → List PlainAccess → List PlainAccess → ℕ → Bool
stages_meet loops first second n = list_any (λ (a : PlainAccess). list_any (λ (b : PlainAccess). meet_within loops a b n) second) first

-- the ranges of counters that are known, and forms that have a coefficient for each counter
pub record IsFootprint (a : Footprint) : Type 0 where
  pub common : a.common ≤ length a.loops.items
  pub ranges : All HasRange a.loops.items
  pub forms : All (λ access. IfSome access.forms (λ v. All (λ f. HasCounters (take a.common a.loops.items) (drop a.common a.loops.items) f.coefs) v.items)) a.accesses.items
