-- What stands around a list of operations: the counters of the controllers around, and the ranges of those that have known
-- ones.
use Rattle.std.specs.Prelude.{ℕ, ◌-◌, ◌^◌, nat_lt, Bool, ◌&&◌, if◌then◌else◌, ℤ, pos, negsuc, ◌-ℤ◌, int_lt, List, [], ◌∷◌, ◌++◌, length, map, Option, Some, None, slice_index_or}
use Rattle.sp_affine.specs.Affine.{Affine}
use Rattle.sp_core.specs.PlainCore.{PlainOp, PlainCounter, PlainMem}
use Rattle.sp_patterns.specs.declared.around.Around.{Around}
use Rattle.sp_patterns.specs.declared.place.CounterPlace.{CounterPlace}
use Rattle.sp_patterns.specs.Forms.{forms_of, is_constant}

-- the counters around, outermost first, and the least and the greatest value of each, where both are known
pub record PlainAround : Type 0 where
  pub places : List CounterPlace
  pub ranges : List (Option (ℤ × ℤ))

abbrev pub plain_around : Around → PlainAround
plain_around a = record { places = a.places.items; ranges = a.ranges.items }

abbrev pub nothing_around : PlainAround
nothing_around = record { places = []; ranges = [] }

-- a list gives the word of its last operation
abbrev pub last_form : List (Option Affine) → Option Affine
last_form forms = slice_index_or forms (length forms - 1) None

-- whether a number is one of `Int`
unfoldable pub fits_int : ℤ → Bool
fits_int (pos n) = nat_lt n (2 ^ 31)
fits_int (negsuc n) = nat_lt n (2 ^ 31)

-- the number that a bound always is: its form has no counter and no symbol
abbrev pub constant_of : Option Affine → Option ℤ
constant_of None = None
constant_of (Some f) = if is_constant f && fits_int f.constant then Some f.constant else None

-- from the first bound up to the second, which a counter doesn't reach; a counter that has no value may be given any range
abbrev pub range_between : Option ℤ → Option ℤ → Option (ℤ × ℤ)
range_between (Some a) (Some b) = Some (a, if int_lt a b then b -ℤ pos 1 else a)
range_between _ _ = None

-- only the last counter of a controller has lanes
abbrev pub lane_step_of : PlainCounter → (others : List PlainCounter) → ℕ
lane_step_of c [] = c.by
lane_step_of c (d ∷ others) = 0

abbrev pub places_in : List PlainCounter → List CounterPlace
places_in [] = []
places_in (c ∷ counters) = record { id = c.number; lane_step = lane_step_of c counters } ∷ places_in counters

module _ (mems : List PlainMem) where
  -- the form of the word that a list gives, over the counters around it
  abbrev pub word_form : List CounterPlace → List PlainOp → Option Affine
  word_form places ops = last_form (forms_of mems ops None places)

  abbrev pub range_of : List CounterPlace → PlainCounter → Option (ℤ × ℤ)
  range_of places c = range_between (constant_of (word_form places c.from)) (constant_of (word_form places c.until))

  -- inside of a controller: the bounds of its counters stand outside
  abbrev pub inside : PlainAround → List PlainCounter → PlainAround
  inside around counters = record {
    places = around.places ++ places_in counters;
    ranges = around.ranges ++ map (range_of around.places) counters;
  }
