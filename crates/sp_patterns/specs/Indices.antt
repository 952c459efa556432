-- The forms that indices have: those of their operations, where what they come to is far from where a word would wrap.
use Rattle.std.specs.Prelude.{ℕ, ◌*◌, ◌^◌, ◌≤◌, option_map, Bool, true, false, ◌&&◌, if◌then◌else◌, ℤ, pos, neg_ℤ, ◌+ℤ◌, ◌-ℤ◌, int_le, List, [], ◌∷◌, ◌++◌, map, max, take, Option, Some, None, is_none, slice_index_or, unsigned_abs}
use Rattle.std.specs.Global.{Vec}
use Rattle.std.specs.Ordering.{int_eq}
use Rattle.sp_affine.specs.Affine.{Affine}
use Rattle.sp_affine.specs.Equality.{linear_parts_equal}
use Rattle.sp_affine.specs.Interval.{least_product, greatest_product}
use Rattle.sp_core.specs.PlainCore.{PlainOp, PlainSpan, single, range, PlainMem, no_mem}
use Rattle.sp_core.specs.Elements.{natural}
use Rattle.sp_core.specs.Typed.{index_count}
use Rattle.sp_patterns.specs.Forms.{forms_of, is_constant}
use Rattle.sp_patterns.specs.Ranges.{PlainAround, word_form}

-- whether the counters of unknown range may be left out of a form: only one, with the coefficient 1, and it only where no
-- symbol is left out
abbrev pub leaves_out : (one : Bool) → (coefs : List ℤ) → List (Option (ℤ × ℤ)) → Bool
leaves_out one (c ∷ coefs) (Some r ∷ ranges) = leaves_out one coefs ranges
leaves_out one (c ∷ coefs) (None ∷ ranges) =
    if int_eq c (pos 0) then leaves_out one coefs ranges
    else (one && int_eq c (pos 1)) && leaves_out false coefs ranges
leaves_out one _ _ = true

-- the least and the greatest value of the counters of known ranges, times their coefficients
abbrev pub least_rest : (coefs : List ℤ) → List (Option (ℤ × ℤ)) → ℤ
least_rest (c ∷ coefs) (Some r ∷ ranges) = least_product c r +ℤ least_rest coefs ranges
least_rest (c ∷ coefs) (None ∷ ranges) = least_rest coefs ranges
least_rest _ _ = pos 0

abbrev pub greatest_rest : (coefs : List ℤ) → List (Option (ℤ × ℤ)) → ℤ
greatest_rest (c ∷ coefs) (Some r ∷ ranges) = greatest_product c r +ℤ greatest_rest coefs ranges
greatest_rest (c ∷ coefs) (None ∷ ranges) = greatest_rest coefs ranges
greatest_rest _ _ = pos 0

-- those of the rest of a form, without what is left out
abbrev pub least_value : List (Option (ℤ × ℤ)) → Affine → ℤ
least_value ranges f = least_rest f.coefs ranges +ℤ f.constant

abbrev pub greatest_value : List (Option (ℤ × ℤ)) → Affine → ℤ
greatest_value ranges f = greatest_rest f.coefs ranges +ℤ f.constant

-- whether the rest lies from -2^30 to 2^30
abbrev pub is_small : List (Option (ℤ × ℤ)) → Affine → Bool
is_small ranges f = int_le (neg_ℤ (pos (2 ^ 30))) (least_value ranges f) && int_le (greatest_value ranges f) (pos (2 ^ 30))

abbrev pub is_index : List (Option (ℤ × ℤ)) → Affine → Bool
is_index ranges f = leaves_out (is_none f.symbol) f.coefs ranges && is_small ranges f

abbrev pub index_form : List (Option (ℤ × ℤ)) → Option Affine → Option Affine
index_form ranges None = None
index_form ranges (Some f) = if is_index ranges f then Some f else None

-- all of them, where each is known
abbrev pub known_after : (done : List Affine) → List (Option Affine) → Option (List Affine)
known_after done [] = Some done
known_after done (None ∷ rest) = None
known_after done (Some f ∷ rest) = known_after (done ++ f ∷ []) rest

abbrev pub all_known : List (Option Affine) → Option (List Affine)
all_known forms = known_after [] forms

-- how many indices an access has
abbrev pub indices_at : List PlainMem → Option ℕ → ℕ
indices_at mems None = 0
indices_at mems (Some m) = index_count (slice_index_or mems m no_mem)

-- the forms of operands that are indices, by the forms of their list
abbrev pub forms_at : List (Option (ℤ × ℤ)) → (forms : List (Option Affine)) → (args : List ℕ) → Option (List Affine)
forms_at ranges forms args = all_known (map (λ a. index_form ranges (slice_index_or forms a None)) args)

abbrev pub at_least_one : ℤ → ℕ
at_least_one z = max 1 (natural z)

-- what a range's length never passes, where the two bounds differ by a constant
abbrev pub length_between : Option Affine → Option Affine → Option ℕ
length_between (Some f) (Some g) = if linear_parts_equal f g then Some (at_least_one (g.constant -ℤ f.constant)) else None
length_between _ _ = None

-- a count, as the length of a range from 0
abbrev pub length_up_to : Option Affine → Option ℕ
length_up_to None = None
length_up_to (Some f) = if is_constant f then Some (at_least_one f.constant) else None

module _ (mems : List PlainMem) (around : PlainAround) where
  -- an access to a memory, among the operations of its list
  abbrev pub access_forms : List PlainOp → PlainOp → Option (List Affine)
  access_forms ops op = forms_at around.ranges (forms_of mems ops op.mask around.places) (take (indices_at mems op.mem) op.args)

  -- a bound or a first index
  abbrev pub bound_form : List PlainOp → Option Affine
  bound_form ops = index_form around.ranges (word_form mems around.places ops)

  abbrev pub first_form : PlainSpan → Option Affine
  first_form (single ops) = bound_form ops
  first_form (range a b) = bound_form a

  -- the first indices of a slice
  abbrev pub slice_forms : List PlainSpan → Option (List Affine)
  slice_forms spans = all_known (map first_form spans)

  abbrev pub range_lengths : List PlainSpan → List (Option ℕ)
  range_lengths [] = []
  range_lengths (single ops ∷ spans) = range_lengths spans
  range_lengths (range a b ∷ spans) = length_between (bound_form a) (bound_form b) ∷ range_lengths spans

-- how far the rest of a form goes: n products of a number of 64 bits and one of 32
abbrev pub IsWithin : ℕ → ℤ → Type 0
IsWithin n z = unsigned_abs z ≤ n * 2 ^ 95

-- rows of forms without where they lie in memory
abbrev pub rows_of : List (Option (Vec Affine)) → List (Option (List Affine))
rows_of rows = map (option_map (λ row. row.items)) rows
