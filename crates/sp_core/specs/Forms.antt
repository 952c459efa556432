-- When forms hold of a core: in each run they are what the indices of its accesses are.
use Rattle.std.specs.Prelude.{ℕ, ◌+◌, nat_le, Bool, true, false, ◌&&◌, ℤ, pos, List, [], ◌∷◌, map, slice_index_or, Option, Some, None, option_map}
use Rattle.std.specs.Ordering.{int_eq}
use Rattle.sp_affine.specs.Affine.{Affine, value_of}
use Rattle.sp_core.specs.declared.access.AccessForms.{AccessForms}
use Rattle.sp_core.specs.Accesses.{word_in}
use Rattle.sp_core.specs.Declarations.{kind_of, dims}
use Rattle.sp_core.specs.Elements.{index_value}
use Rattle.sp_core.specs.Events.{Event, Slice, Moment, touches, slices}
use Rattle.sp_core.specs.Inputs.{EachRun}
use Rattle.sp_core.specs.Numbered.{Numbered, accesses, numbered, access_number, range_number}
use Rattle.sp_core.specs.PlainCore.{PlainCore}
use Rattle.sp_core.specs.Replay.{after_moment}
use Rattle.sp_core.specs.Store.{Store}

-- forms as plain values: for each access a form for each index, where all have one; for each range the length that it
-- never passes, where one is known
pub record PlainForms : Type 0 where
  pub forms : List (Option (List Affine))
  pub lengths : List (Option ℕ)

abbrev pub plain_forms : AccessForms → PlainForms
plain_forms f = record { forms = map (option_map (λ row. row.items)) f.forms.items; lengths = f.lengths.items }

module _ (core : PlainCore) (forms : PlainForms) where
  -- a symbol is the word that its memory, a register or an argument, holds
  abbrev pub held_word : Option ℕ → ℤ
  held_word None = pos 0
  held_word (Some w) = index_value w

  abbrev pub symbol_in : Store → ℕ → ℤ
  symbol_in s m = held_word (word_in (kind_of core m) (dims core m) [] (s m))

  -- each form is the index that stands in its place
  abbrev pub are_indices : List Affine → (indices : List ℤ) → (counters : List ℤ) → (ℕ → ℤ) → Bool
  are_indices [] [] counters symbols = true
  are_indices (f ∷ fs) (i ∷ is) counters symbols = int_eq (value_of f counters symbols) i && are_indices fs is counters symbols
  are_indices _ _ counters symbols = false

  -- where no form is known nothing is asked
  abbrev pub are_known_indices : Option (List Affine) → (indices : List ℤ) → (counters : List ℤ) → (ℕ → ℤ) → Bool
  are_known_indices None is counters symbols = true
  are_known_indices (Some fs) is counters symbols = are_indices fs is counters symbols

  abbrev pub form_at : (number : ℕ) → Option (List Affine)
  form_at n = slice_index_or forms.forms (access_number core n) None

  abbrev pub is_within : Option ℕ → ℕ → Bool
  is_within None length = true
  is_within (Some most) length = nat_le length most

  -- the lengths of the ranges of a transfer, of which the first one has this number among all ranges
  abbrev pub are_within : (number : ℕ) → List ℕ → Bool
  are_within n [] = true
  are_within n (length ∷ rest) = is_within (slice_index_or forms.lengths n None) length && are_within (n + 1) rest

  -- an operation's forms are its indices; those of a transfer are the first indices of its slice
  abbrev pub holds_of_event : Numbered → Event → Store → Bool
  holds_of_event accesses e s = are_known_indices (form_at e.number) (map pos e.indices) e.standing.counters (symbol_in s)
  holds_of_event _ e s = true

  abbrev pub holds_of_slice : Slice → Store → Bool
  holds_of_slice slice s =
      are_known_indices (form_at slice.number) slice.firsts slice.standing.counters (symbol_in s)
      && are_within (range_number core slice.number) slice.lengths

  abbrev pub holds_of : Moment → Store → Bool
  holds_of (touches e) s = holds_of_event (numbered core e.number) e s
  holds_of (slices slice) s = holds_of_slice slice s
  holds_of _ s = true

  -- at each moment, in the store that stands then
  abbrev pub hold_in : Store → List Moment → Bool
  hold_in s [] = true
  hold_in s (m ∷ moments) = holds_of m s && hold_in (after_moment core m s) moments

  abbrev pub FormsHold : Type 0
  FormsHold = EachRun core hold_in
