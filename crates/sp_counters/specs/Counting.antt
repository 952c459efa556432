-- How the counters of a loop go on: equations of their nets over time, whatever the words of others.
use Rattle.std.specs.Prelude.{◌≡◌, ℕ, suc, ◌*◌, ◌<◌, ◌^◌, Bool, true, false, ◌&&◌, not, ℤ, pos, ◌+ℤ◌, int_lt, if◌then◌else◌, List, [], ◌∷◌, slice_index}
use Rattle.sp_words.specs.Types.{int_type}
use Rattle.sp_words.specs.Words.{wrap}
use Rattle.sp_netlist.specs.Signals.{Signals}
use Rattle.sp_gates.specs.Tested.{is_on}
use Rattle.sp_core.specs.Elements.{index_value}
use Rattle.sp_counters.specs.declared.part.Count.{Count}
use Rattle.sp_counters.specs.declared.part.Counter.{Counter}
use Rattle.sp_counters.specs.declared.part.Counters.{Counters}
use Rattle.sp_counters.specs.declared.part.Counted.{Counted}

-- the number that a net has in a cycle, an `Int`; and the one that its low 32 bits are
abbrev pub number : Signals → (net cycle : ℕ) → ℤ
number s net t = index_value (s.net t net)

abbrev pub low_number : Signals → (net cycle : ℕ) → ℤ
low_number s net t = index_value (wrap int_type (number s net t))

-- how far a counter goes on from one group to the next
abbrev pub advance_of : Count → ℕ
advance_of c = c.by * c.par

-- whether a counter has its last value, and whether all have
abbrev pub is_last : Signals → Count → Counter → (cycle : ℕ) → Bool
is_last s c n t = not (int_lt (number s n.value t +ℤ pos (advance_of c)) (number s n.until t))

abbrev pub are_last : Signals → List Count → List Counter → (cycle : ℕ) → Bool
are_last s (c ∷ counts) (n ∷ counters) t = is_last s c n t && are_last s counts counters t
are_last s _ _ t = true

-- whether each counter has a value, by the bounds that are given
abbrev pub have_values : Signals → List Count → (cycle : ℕ) → Bool
have_values s [] t = true
have_values s (c ∷ counts) t = int_lt (low_number s c.from t) (low_number s c.until t) && have_values s counts t

-- A counter takes its bounds where the loop is started, and has the first one as its value then. Where it goes on, its value
-- is advanced; after the last one it is the first one again.
pub record Counts (s : Signals) (start goes : ℕ → Bool) (c : Count) (n : Counter) : Type 0 where
  pub fits : (t : ℕ) → s.net t n.value < 2 ^ 32
  pub from : (t : ℕ) → number s n.from (suc t) ≡ (if start t then low_number s c.from t else number s n.from t)
  pub until : (t : ℕ) → number s n.until (suc t) ≡ (if start t then low_number s c.until t else number s n.until t)
  pub value : (t : ℕ) → number s n.value (suc t)
      ≡ (if start t then low_number s c.from t else (if goes t then (if is_last s c n t then number s n.from t else number s n.value t +ℤ pos (advance_of c)) else number s n.value t))

-- a counter goes on at a step where all counters after it have their last values
pub data AllCount (s : Signals) (start step : ℕ → Bool) : List Count → List Counter → Type 0 where
  none : AllCount s start step [] []
  counted : {c : Count} {n : Counter} {counts : List Count} {counters : List Counter} → Counts s start (λ t. step t && are_last s counts counters t) c n → AllCount s start step counts counters
      → AllCount s start step (c ∷ counts) (n ∷ counters)

-- how many lanes there are, those of the last counter; and whether one of them is below its bound
abbrev pub lanes_of : List Count → ℕ
lanes_of [] = 0
lanes_of (c ∷ []) = c.par
lanes_of (c ∷ counts) = lanes_of counts

abbrev pub is_below : Signals → List Count → List Counter → (lane cycle : ℕ) → Bool
is_below s (c ∷ []) (n ∷ _) lane t = int_lt (number s n.value t +ℤ pos (lane * c.by)) (number s n.until t)
is_below s (c ∷ counts) (n ∷ counters) lane t = is_below s counts counters lane t
is_below s _ _ lane t = true

-- A group stands from a start with values for all counters on, until a step in which all have their last ones.
pub record CountsGroups (s : Signals) (part : Counters) (nets : Counted) : Type 0 where
  pub each : AllCount s (is_on s part.start) (is_on s part.step) part.counters.items nets.counters.items
  pub none_first : is_on s nets.more 0 ≡ false
  pub more : (t : ℕ) → is_on s nets.more (suc t)
      ≡ (if is_on s part.start t then have_values s part.counters.items t else is_on s nets.more t && not (is_on s part.step t && are_last s part.counters.items nets.counters.items t))
  pub masks : (lane t : ℕ) → lane < lanes_of part.counters.items → is_on s (slice_index nets.masks.items lane) t ≡ is_below s part.counters.items nets.counters.items lane t
