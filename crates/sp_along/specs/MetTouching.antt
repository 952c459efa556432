-- Accesses that touch one element over the innermost controller around both, and that they stand in the meets of a core.
use Rattle.std.specs.Prelude.{◌≡◌, ℕ, ◌<◌, ◌≤◌, ◌⊎◌, true, false, nat_lt, List, length, Some}
use Rattle.std.specs.List.{Contains}
use Rattle.sp_core.specs.declared.access.Meet.{Meet}
use Rattle.sp_core.specs.Declarations.{is_among}
use Rattle.sp_core.specs.Forms.{PlainForms}
use Rattle.sp_core.specs.Meeting.{stand}
use Rattle.sp_core.specs.PlainCore.{PlainCore}
use Rattle.sp_deps.specs.Access.{can_meet}
use Rattle.sp_deps.specs.Groups.{AreTouching}
use Rattle.sp_meets.specs.Between.{between, loops_of_parts, share_port}
use Rattle.sp_meets.specs.Meets.{IsMeetsOf}
use Rattle.sp_meets.specs.Sites.{PlainPart, PlainView, PlainSite, sites}

-- memories on the chip are numbered below the DRAMs
module _ (chip : ℕ) (a b : PlainSite) (k : ℕ) where
  -- two accesses as parts of the innermost controller around both touch one element k of its groups apart, or share a write
  -- port
  pub record AreMet : Type 0 where
    pub views : PlainView × PlainView
    pub over : between a.views b.views ≡ Some views
    pub first : PlainPart
    pub second : PlainPart
    pub has_first : Contains views.0.parts first
    pub has_second : Contains views.1.parts second
    pub can : can_meet first.access second.access ≡ true
    pub touching : (share_port chip views.0 views.1 (nat_lt a.number b.number) first second ≡ true) ⊎ AreTouching (loops_of_parts chip views.0 views.1 (nat_lt a.number b.number) first second) first.access second.access k
    -- in one group the first stands before the second
    pub in_order : k ≡ 0 → a.number < b.number
    -- in another group what has a copy for each group doesn't meet
    pub looped : 1 ≤ k → 0 < length first.common
    pub not_copied : 1 ≤ k → is_among first.access.mem views.0.copied ≡ false

-- they stand in the meets at no greater distance
abbrev pub MetAccessesStand : Type 0
MetAccessesStand =
    (core : PlainCore) (forms : PlainForms) (meets : List Meet) → IsMeetsOf core forms meets → (a b : PlainSite) (k : ℕ) →
    Contains (sites core forms) a → Contains (sites core forms) b → AreMet (length core.mems) a b k → stand core meets a.number b.number k ≡ true
