-- What accesses touch, by the forms of their indices.
use Rattle.std.specs.Prelude.{ℕ, zero, suc, ◌-◌, max, Bool, true, false, ◌||◌, if◌then◌else◌, ℤ, pos, List, [], ◌∷◌, ◌++◌, length, map, drop, replicate, Option, Some, None, option_map, slice_index_or}
use Rattle.sp_affine.specs.Affine.{Affine}
use Rattle.sp_deps.specs.declared.access.LoopRange.{LoopRange}
use Rattle.sp_deps.specs.Access.{PlainAccess}
use Rattle.sp_core.specs.Declarations.{is_among}
use Rattle.sp_core.specs.Forms.{PlainForms}
use Rattle.sp_core.specs.PlainCore.{PlainCore}
use Rattle.sp_meets.specs.declared.spot.Places.{Places}
use Rattle.sp_meets.specs.declared.spot.Places.TheVariants.{Operands, Slice, Counters, Anywhere}
use Rattle.sp_meets.specs.Around.{PlainLevel}
use Rattle.sp_meets.specs.Spots.{PlainTarget, PlainSpot, spots}

-- a memory that is touched, with the counters of the access's own after those around
pub record PlainTouch : Type 0 where
  pub access : PlainAccess
  pub own : List LoopRange

-- the same over a controller around: its counters, and those inside of it
pub record PlainPart : Type 0 where
  pub access : PlainAccess
  pub common : List LoopRange
  pub own : List LoopRange

-- an access as a part of a controller's body, with what counts of the controller
pub record PlainView : Type 0 where
  pub part : ℕ
  pub at_once : Bool
  pub streams : Bool
  pub copied : List ℕ
  pub parts : List PlainPart

-- an access, as a part of each of the controllers around it, outermost first
pub record PlainSite : Type 0 where
  pub number : ℕ
  pub views : List PlainView

-- the counters of these controllers
abbrev pub counters_of : List PlainLevel → List LoopRange
counters_of [] = []
counters_of (l ∷ path) = l.loops ++ counters_of path

-- a counter from 0 on, below a length; one below 1 counts as 1
abbrev pub from_zero : ℕ → LoopRange
from_zero length = record { from = Some (pos 0, pos (max 1 length - 1)); by = 1; par = 1 }

abbrev pub size_of : Option ℕ → (otherwise : ℕ) → ℕ
size_of None n = n
size_of (Some length) n = length

-- the counters of an access's own: below its lengths where they are known
abbrev pub own_counters : List (Option ℕ) → (sizes : List ℕ) → List LoopRange
own_counters lengths [] = []
own_counters lengths (n ∷ sizes) = from_zero (size_of (slice_index_or lengths 0 None) n) ∷ own_counters (drop 1 lengths) sizes

-- coefficients of counters of which one counts
abbrev pub unit : (count at : ℕ) → List ℤ
unit zero i = []
unit (suc n) zero = pos 1 ∷ replicate n (pos 0)
unit (suc n) (suc i) = pos 0 ∷ unit n i

abbrev pub with_more : List ℤ → Affine → Affine
with_more coefs f = record f { coefs = f.coefs ++ coefs }

-- the indices of a slice: those of its first word, and in each range so much more as its counter is; from range i on
abbrev pub slice_indices : (count i : ℕ) → List Bool → List Affine → List Affine
slice_indices n i (true ∷ spans) (f ∷ fs) = with_more (unit n i) f ∷ slice_indices n (suc i) spans fs
slice_indices n i (false ∷ spans) (f ∷ fs) = with_more (replicate n (pos 0)) f ∷ slice_indices n i spans fs
slice_indices n i _ _ = []

-- indices that are the counters of an access's own; the last ones
abbrev pub counter_indices : (around count last : ℕ) → List Affine
counter_indices around n zero = []
counter_indices around n (suc last) =
    record { coefs = replicate around (pos 0) ++ unit n (n - suc last); constant = pos 0; symbol = None } ∷ counter_indices around n last

-- a symbol whose memory is declared or written inside of the controller may be two words
abbrev pub is_changed : (changed : List ℕ) → Option ℕ → Bool
is_changed changed None = false
is_changed changed (Some m) = is_among m changed

abbrev pub has_changed : (changed : List ℕ) → List Affine → Bool
has_changed changed [] = false
has_changed changed (f ∷ fs) = is_changed changed f.symbol || has_changed changed fs

abbrev pub known_inside : (changed : List ℕ) → Option (List Affine) → Option (List Affine)
known_inside changed None = None
known_inside changed (Some fs) = if has_changed changed fs then None else Some fs

abbrev pub part_of : PlainLevel → (inside : List LoopRange) → PlainTouch → PlainPart
part_of l inside t = record {
  access = record t.access { forms = known_inside l.changed t.access.forms };
  common = l.loops;
  own = inside ++ t.own;
}

abbrev pub view_of : PlainLevel → (inside : List LoopRange) → List PlainTouch → PlainView
view_of l inside touches = record { part = l.part; at_once = l.at_once; streams = l.streams; copied = l.copied; parts = map (part_of l inside) touches }

abbrev pub views_of : List PlainLevel → List PlainTouch → List PlainView
views_of [] touches = []
views_of (l ∷ path) touches = view_of l (counters_of path) touches ∷ views_of path touches

-- by how its places are known: its spans, the number of counters around, its row of forms, and the number of its own counters
abbrev pub indices_by : (spans : List Bool) → (around : ℕ) → (row : Option (List Affine)) → Places → (count : ℕ) → Option (List Affine)
indices_by spans around row Operands n = row
indices_by spans around row Slice n = option_map (slice_indices n 0 spans) row
indices_by spans around row Counters n = Some (counter_indices around n n)
indices_by spans around row Anywhere n = None

module _ (spans : List Bool) (around : ℕ) (row : Option (List Affine)) (lengths : List (Option ℕ)) where
  abbrev pub touch_of : PlainTarget → PlainTouch
  touch_of t = record {
    access = record { mem = t.mem; writes = t.writes; forms = indices_by spans around row t.places (length t.sizes) };
    own = own_counters lengths t.sizes;
  }

abbrev pub site_of : PlainSpot → (row : Option (List Affine)) → (lengths : List (Option ℕ)) → PlainSite
site_of spot row lengths = record {
  number = spot.number;
  views = views_of spot.path (map (touch_of spot.spans (length (counters_of spot.path)) row lengths) spot.targets);
}

-- an access has a row of forms each, and takes as many lengths as it has
abbrev pub sites_of : List PlainSpot → (rows : List (Option (List Affine))) → (lengths : List (Option ℕ)) → List PlainSite
sites_of [] rows lengths = []
sites_of (spot ∷ rest) rows lengths = site_of spot (slice_index_or rows 0 None) lengths ∷ sites_of rest (drop 1 rows) (drop spot.lengths lengths)

abbrev pub sites : PlainCore → PlainForms → List PlainSite
sites core patterns = sites_of (spots core) patterns.forms patterns.lengths
