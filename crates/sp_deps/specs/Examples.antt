-- Short forms of accesses and loops.
use Rattle.std.specs.Prelude.{ℕ, ℤ, Bool, List, [], ◌∷◌, map, Some, None}
use Rattle.sp_affine.specs.Affine.{Affine}
use Rattle.sp_deps.specs.declared.access.LoopRange.{LoopRange}
use Rattle.sp_deps.specs.declared.class.Class.{Class}
use Rattle.sp_deps.specs.declared.class.Class.TheVariants.{Same, Steps}
use Rattle.sp_deps.specs.Classes.{may_meet}
use Rattle.sp_deps.specs.Distances.{all_common}

abbrev pub form : List ℤ → ℤ → Affine
form coefs constant = record { coefs = coefs; constant = constant; symbol = None }

-- a form to which the word of a memory is added
abbrev pub with_symbol : ℕ → Affine → Affine
with_symbol m f = record f { symbol = Some m }

-- a counter from a up to b, both included; and one whose range isn't known
abbrev pub between : (a b : ℤ) → (by par : ℕ) → LoopRange
between a b by par = record { from = Some (a, b); by = by; par = par }

abbrev pub somewhere : (by par : ℕ) → LoopRange
somewhere by par = record { from = None; by = by; par = par }

-- whether accesses may meet in a class, over the counters of a loop
abbrev pub meet_in : List LoopRange → Class → List Affine → List Affine → Bool
meet_in loops class fs gs = may_meet (all_common loops) class (Some fs) (Some gs)

-- the same group, and one to five steps of the last counter
abbrev pub first_classes : List Class
first_classes = Same ∷ Steps 1 ∷ Steps 2 ∷ Steps 3 ∷ Steps 4 ∷ Steps 5 ∷ []

abbrev pub meet_in_each : List LoopRange → List Affine → List Affine → List Bool
meet_in_each loops fs gs = map (λ class. meet_in loops class fs gs) first_classes
