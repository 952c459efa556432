-- What stands around a part of a core: the counters of the controllers around, and the memories whose owners are around.
use Rattle.std.specs.Prelude.{ℕ, ◌==◌, Bool, true, false, ◌&&◌, ◌||◌, nat_lt, List, [], ◌∷◌, ◌++◌, map, length}
use Rattle.sp_words.specs.declared.kind.Kind.{Kind}
use Rattle.sp_words.specs.declared.kind.Kind.TheVariants.{ArgIn, ArgOut}
use Rattle.sp_core.specs.Declarations.{mem, is_among}
use Rattle.sp_core.specs.PlainCore.{PlainCounter, PlainCore}

-- a counter, with the lanes of its controller
pub record Near : Type 0 where
  pub number : ℕ
  pub lanes : ℕ

pub record Around : Type 0 where
  pub counters : List Near
  pub owned : List ℕ

abbrev pub nothing : Around
nothing = record { counters = []; owned = [] }

-- the lanes of a controller: those of its last counter, and one where it has none
abbrev pub lanes_of : List PlainCounter → ℕ
lanes_of [] = 1
lanes_of (c ∷ []) = c.par
lanes_of (c ∷ rest) = lanes_of rest

-- inside of a controller
abbrev pub within : Around → List PlainCounter → (owned : List ℕ) → Around
within around counters owned = record {
  counters = map (λ c. record { number = c.number; lanes = lanes_of counters }) counters ++ around.counters;
  owned = owned ++ around.owned;
}

-- whether a counter is around, and its controller has more lanes than this; the nearest one of its number counts
abbrev pub has_lane : List Near → (counter lane : ℕ) → Bool
has_lane [] c lane = false
has_lane (near ∷ rest) c lane = elim (near.number == c) [ true ↦ nat_lt lane near.lanes | false ↦ has_lane rest c lane ]

-- arguments and outputs have no owner, and are used anywhere
abbrev pub is_port_kind : Kind → Bool
is_port_kind ArgIn = true
is_port_kind ArgOut = true
is_port_kind _ = false

-- whether a memory exists and may be used here
abbrev pub is_usable : PlainCore → Around → ℕ → Bool
is_usable core around m = nat_lt m (length core.mems) && (is_port_kind (mem core m).kind || is_among m around.owned)
