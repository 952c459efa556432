-- Whether two accesses meet some groups apart: over the innermost controller around both.
use Rattle.std.specs.Prelude.{ℕ, zero, suc, ◌-◌, ◌==◌, nat_le, nat_lt, Bool, true, false, ◌&&◌, ◌||◌, not, if◌then◌else◌, List, [], ◌∷◌, length, Option, Some, None}
use Rattle.std.specs.List.{list_any}
use Rattle.sp_affine.specs.Affine.{Affine}
use Rattle.sp_affine.specs.Equality.{linear_parts_equal}
use Rattle.sp_deps.specs.declared.class.Class.TheVariants.{Same, Steps}
use Rattle.sp_deps.specs.Access.{can_meet}
use Rattle.sp_deps.specs.Classes.{Loops, may_meet}
use Rattle.sp_deps.specs.Distances.{earlier_may_meet}
use Rattle.sp_core.specs.Declarations.{is_among}
use Rattle.sp_meets.specs.Sites.{PlainPart, PlainView, PlainSite}

abbrev pub goes_on : List PlainView → Bool
goes_on [] = false
goes_on (v ∷ views) = true

-- the two as parts of the innermost controller around both; inside of a `Stream` block there is none
abbrev pub between : List PlainView → List PlainView → Option (PlainView × PlainView)
between (v ∷ p) (w ∷ q) =
    if v.streams then None
    else if (v.part == w.part) && (goes_on p && goes_on q) then between p q
    else Some (v, w)
between _ _ = None

abbrev pub are_parallel_forms : List Affine → List Affine → Bool
are_parallel_forms (f ∷ fs) (g ∷ gs) = linear_parts_equal f g && are_parallel_forms fs gs
are_parallel_forms _ _ = true

-- whether both are known and have equal linear parts
abbrev pub are_parallel : Option (List Affine) → Option (List Affine) → Bool
are_parallel (Some fs) (Some gs) = are_parallel_forms fs gs
are_parallel _ _ = false

module _ (loops : Loops) (first second : Option (List Affine)) where
  -- whether they may meet t groups on, t at least 1: where an earlier counter goes on, or after so many steps; past 64 steps
  -- they do where the linear parts aren't equal
  abbrev pub may_meet_on : (t : ℕ) → Bool
  may_meet_on t =
      earlier_may_meet loops first second (length loops.common - 1)
      || (if are_parallel first second || nat_le t 64 then may_meet loops (Steps t) first second else true)

-- memories on the chip are numbered below the DRAMs
module _ (chip : ℕ) (v w : PlainView) (before : Bool) where
  module _ (p q : PlainPart) where
    abbrev pub loops_of_parts : Loops
    loops_of_parts = record { common = p.common; first = p.own; second = q.own }

    -- a memory on the chip has one write port, which two parts share that may be at work at once
    abbrev pub share_port : Bool
    share_port = (not (v.part == w.part) && v.at_once) && nat_lt p.access.mem chip

    -- in the same group the first one stands before the second
    abbrev pub meet_in_group : Bool
    meet_in_group = before && (share_port || may_meet loops_of_parts Same p.access.forms q.access.forms)

    -- there is another group only of a loop, and what has a copy for each group doesn't meet there
    abbrev pub meet_on : (t : ℕ) → Bool
    meet_on t =
        (not (length p.common == 0) && not (is_among p.access.mem v.copied))
        && (share_port || may_meet_on loops_of_parts p.access.forms q.access.forms t)

    abbrev pub meet_in : (groups : ℕ) → Bool
    meet_in zero = meet_in_group
    meet_in (suc k) = meet_on (suc k)

    abbrev pub parts_meet_at : (groups : ℕ) → Bool
    parts_meet_at k = can_meet p.access q.access && meet_in k

  abbrev pub views_meet_at : (groups : ℕ) → Bool
  views_meet_at k = list_any (λ (p : PlainPart). list_any (λ (q : PlainPart). parts_meet_at p q k) w.parts) v.parts

module _ (chip : ℕ) (before : Bool) where
  abbrev pub meet_over : Option (PlainView × PlainView) → (groups : ℕ) → Bool
  meet_over None k = false
  meet_over (Some views) k = views_meet_at chip views.0 views.1 before k

-- whether the two meet so many groups apart
abbrev pub meet_at : (chip : ℕ) → (a b : PlainSite) → (groups : ℕ) → Bool
meet_at chip a b k = meet_over chip (nat_lt a.number b.number) (between a.views b.views) k
