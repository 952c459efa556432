-- Classes of distances, and which of them two forms rule out.
--
-- Two accesses are compared over the counters of a loop. The second one stands in the same group of iterations as the first, or some groups after it. In the class of the same group all counters agree. In that of t steps the last counter is t steps further on, and the others agree. In the class of an earlier counter, that counter is any positive number of steps further on, those before it agree, and those after it are free. In each class the index of the second access less that of the first is a sum of terms and a constant, and the class is ruled out where that sum is never the constant's opposite, by its divisor or by its interval.
use Rattle.std.specs.Prelude.{ℕ, ◌+◌, ◌-◌, ◌==◌, Bool, true, ◌&&◌, ◌||◌, not, if◌then◌else◌, ℤ, pos, neg_ℤ, ◌+ℤ◌, ◌-ℤ◌, ◌*ℤ◌, List, [], ◌∷◌, ◌++◌, length, take, drop, Option, Some, None, nat_eq}
use Rattle.std.specs.Option.{option_eq}
use Rattle.sp_affine.specs.Affine.{Affine}
use Rattle.sp_deps.specs.declared.access.LoopRange.{LoopRange}
use Rattle.sp_deps.specs.declared.class.Class.{Class}
use Rattle.sp_deps.specs.declared.class.Class.TheVariants.{Same, Steps, Earlier}
use Rattle.sp_deps.specs.declared.sum.Range.{Range}
use Rattle.sp_deps.specs.declared.sum.Term.{Term}
use Rattle.sp_deps.specs.Access.{range_of, steps_of, advance}
use Rattle.sp_deps.specs.Sums.{sum_of, may_be}

-- the counters of the loop over which two accesses are compared, and those of each access alone
pub record Loops : Type 0 where
  pub common : List LoopRange
  pub first : List LoopRange
  pub second : List LoopRange

abbrev pub term : ℤ → Range → Term
term c r = record { coef = c; range = r }

abbrev pub unknown : Range
unknown = record { least = None; greatest = None }

-- a counter outside has one value for both, of which nothing is known
abbrev pub outside : List ℤ → List ℤ → List Term
outside (x ∷ xs) (y ∷ ys) = term (y -ℤ x) unknown ∷ outside xs ys
outside _ _ = []

-- counters that have one value for both
abbrev pub shared : List ℤ → List ℤ → List LoopRange → List Term
shared (x ∷ xs) (y ∷ ys) (l ∷ loops) = term (y -ℤ x) (range_of l) ∷ shared xs ys loops
shared _ _ _ = []

-- counters that have a value of their own for the second access, and for the first
abbrev pub own_second : List ℤ → List LoopRange → List Term
own_second (y ∷ ys) (l ∷ loops) = term y (range_of l) ∷ own_second ys loops
own_second _ _ = []

abbrev pub own_first : List ℤ → List LoopRange → List Term
own_first (x ∷ xs) (l ∷ loops) = term (neg_ℤ x) (range_of l) ∷ own_first xs loops
own_first _ _ = []

-- a counter that goes on by steps, and those after it, which are free
abbrev pub stepped : ℤ → LoopRange → List ℤ → List ℤ → List LoopRange → List Term
stepped y l xs ys loops = term (y *ℤ pos l.by) (steps_of l) ∷ (own_first xs loops ++ own_second ys loops)

-- counter i goes on by steps, and those before it have one value for both
abbrev pub stepping : ℕ → List ℤ → List ℤ → List LoopRange → List Term
stepping i (x ∷ xs) (y ∷ ys) (l ∷ loops) =
    term (y -ℤ x) (range_of l) ∷ (if i == 0 then stepped y l xs ys loops else stepping (i - 1) xs ys loops)
stepping i _ _ _ = []

-- how far the last counter goes on in a step, times its coefficient
abbrev pub last_step : List ℤ → List LoopRange → ℤ
last_step (y ∷ []) (l ∷ []) = y *ℤ pos (advance l)
last_step (y ∷ ys) (l ∷ loops) = last_step ys loops
last_step _ _ = pos 0

-- the coefficients of the counters outside, of those of the loop, and of the access's own, which stand in this order
abbrev pub of_outside : List LoopRange → List LoopRange → List ℤ → List ℤ
of_outside common own xs = take (length xs - (length common + length own)) xs

abbrev pub of_inside : List LoopRange → List LoopRange → List ℤ → List ℤ
of_inside common own xs = drop (length xs - (length common + length own)) xs

abbrev pub of_common : List LoopRange → List LoopRange → List ℤ → List ℤ
of_common common own xs = take (length common) (of_inside common own xs)

abbrev pub of_own : List LoopRange → List LoopRange → List ℤ → List ℤ
of_own common own xs = drop (length common) (of_inside common own xs)

-- the terms of the loop's counters, by the coefficients of both accesses; in the same group nothing is known of them
abbrev pub inside_of : Class → List ℤ → List ℤ → List LoopRange → List Term
inside_of Same xs ys loops = outside xs ys
inside_of (Steps t) xs ys loops = shared xs ys loops
inside_of (Earlier i) xs ys loops = stepping i xs ys loops

module _ (loops : Loops) (f g : Affine) where
  abbrev pub first_common : List ℤ
  first_common = of_common loops.common loops.first f.coefs

  abbrev pub second_common : List ℤ
  second_common = of_common loops.common loops.second g.coefs

  -- the counters in which all classes agree
  abbrev pub around : List Term → List Term
  around inside =
      outside (of_outside loops.common loops.first f.coefs) (of_outside loops.common loops.second g.coefs)
      ++ (inside ++ (own_first (of_own loops.common loops.first f.coefs) loops.first ++ own_second (of_own loops.common loops.second g.coefs) loops.second))

  -- the terms of the difference
  abbrev pub terms_of : Class → List Term
  terms_of class = around (inside_of class first_common second_common loops.common)

  abbrev pub constant_of : Class → ℤ
  constant_of (Steps t) = (g.constant -ℤ f.constant) +ℤ (last_step second_common loops.common *ℤ pos t)
  constant_of _ = g.constant -ℤ f.constant

  abbrev pub is_ruled_out : Class → Bool
  is_ruled_out class = not (may_be (sum_of (terms_of class)) (neg_ℤ (constant_of class)))

abbrev pub same_symbol : Affine → Affine → Bool
same_symbol f g = option_eq nat_eq f.symbol g.symbol

abbrev pub have_same_symbols : List Affine → List Affine → Bool
have_same_symbols (f ∷ fs) (g ∷ gs) = same_symbol f g && have_same_symbols fs gs
have_same_symbols _ _ = true

module _ (loops : Loops) (class : Class) where
  -- in no dimension is the class ruled out
  abbrev pub is_open : List Affine → List Affine → Bool
  is_open (f ∷ fs) (g ∷ gs) = not (is_ruled_out loops f g class) && is_open fs gs
  is_open _ _ = true

  -- an unknown index and another symbol, in whatever dimension, keep every class
  abbrev pub may_meet : Option (List Affine) → Option (List Affine) → Bool
  may_meet (Some fs) (Some gs) = not (have_same_symbols fs gs) || is_open fs gs
  may_meet _ _ = true
