-- Whether a scheme keeps two accesses apart, and the lanes of a wide transfer, as tests.
use Rattle.std.specs.Prelude.{ℕ, ◌+◌, ◌-◌, ◌*◌, ◌%◌, nat_le, Bool, false, ◌&&◌, ◌||◌, not, ℤ, List, ◌∷◌, Option, Some, slice_index, unsigned_abs}
use Rattle.std.specs.Cmp.Lexicographic.{pointwise}
use Rattle.std.specs.List.{list_all}
use Rattle.std.specs.Ordering.{int_eq}
use Rattle.sp_affine.specs.Affine.{Affine}
use Rattle.sp_bank.specs.Banking.{Banking, period}
use Rattle.sp_bank.specs.Separation.{constants, residue_of}
use Rattle.sp_core.specs.Elements.{numbers_below}
use Rattle.sp_plan.specs.Groups.{have_one_linear_part}
use Rattle.sp_words.specs.declared.kind.Kind.{Kind}
use Rattle.sp_words.specs.declared.kind.Kind.TheVariants.{LineBuf}

module _ (b : Banking) where
  -- two places within the period are a block or more from one another
  abbrev pub is_above : (x y : ℕ) → Bool
  is_above x y = nat_le (y + b.block) x && nat_le (x + b.block) (y + b.banks * b.block)

  abbrev pub is_far : (x y : ℕ) → Bool
  is_far x y = is_above x y || is_above y x

  -- the place of an access within the period, but for what all accesses of its group share
  abbrev pub place : List ℤ → ℕ
  place c = unsigned_abs (residue_of b c)

  -- accesses with different constants have different banks
  abbrev pub is_apart : (c d : List ℤ) → Bool
  is_apart c d = pointwise int_eq c d || is_far (place c) (place d)

  -- rows of a line buffer are banked one by one, by their columns
  abbrev pub is_kind_apart : Kind → (f g : List Affine) → Bool
  is_kind_apart LineBuf (row ∷ f) (other ∷ g) = not (int_eq row.constant other.constant) || is_apart (constants f) (constants g)
  is_kind_apart kind f g = is_apart (constants f) (constants g)

  -- two accesses by one port are of one group, and apart
  abbrev pub are_kept : Kind → (f g : Option (List Affine)) → Bool
  are_kept kind (Some f) (Some g) = have_one_linear_part f g && is_kind_apart kind f g
  are_kept kind f g = false

  -- the place of a lane of a wide transfer: its number is what it is at in the last dimension
  abbrev pub lane_residue : (rank lane : ℕ) → ℕ
  lane_residue rank l = (slice_index b.alpha (rank - 1) * l) % period b

  abbrev pub is_lane_far : (rank second first : ℕ) → Bool
  is_lane_far rank j i = is_far (lane_residue rank i) (lane_residue rank j)

  abbrev pub are_lanes_far : (rank par : ℕ) → Bool
  are_lanes_far rank par = list_all (λ j. list_all (is_lane_far rank j) (numbers_below j)) (numbers_below par)
