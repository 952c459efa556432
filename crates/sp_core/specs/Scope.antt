-- The counters of a controller, their values in a group of iterations, and its lanes.
use Rattle.std.specs.Prelude.{ℕ, zero, suc, ◌+◌, ◌-◌, ◌*◌, Bool, true, ◌||◌, ◌&&◌, nat_le, ℤ, pos, ◌+ℤ◌, int_lt, List, [], ◌∷◌, map}
use Rattle.sp_words.specs.Types.{int_type}
use Rattle.sp_words.specs.Words.{wrap}
use Rattle.sp_core.specs.Elements.{index_value, tuples, count_below, values_below}
use Rattle.sp_core.specs.History.{Bounds, last_word}
use Rattle.sp_core.specs.PlainCore.{PlainCounter}
use Rattle.sp_core.specs.Store.{changed}

-- a core is read in one of two ways: plainly, where each counter goes on by its step; or in lanes, where it goes on by as
-- many steps as are taken at once
abbrev pub Reading : Type 0
Reading = PlainCounter → ℕ

abbrev pub plainly : Reading
plainly c = c.by

abbrev pub in_lanes : Reading
in_lanes c = c.by * c.par

-- a counter in a run of its controller: its bounds, its step, and how far it goes on from one group to the next
pub record Loop : Type 0 where
  pub number : ℕ
  pub from : ℤ
  pub until : ℤ
  pub by : ℕ
  pub advance : ℕ

abbrev pub loop_of : Reading → PlainCounter → Bounds → Loop
loop_of reading c b = record {
  number = c.number;
  from = index_value (last_word b.from);
  until = index_value (last_word b.until);
  by = c.by;
  advance = reading c;
}

abbrev pub loops_of : Reading → List PlainCounter → List Bounds → List Loop
loops_of reading (c ∷ counters) (b ∷ bounds) = loop_of reading c b ∷ loops_of reading counters bounds
loops_of reading _ _ = []

-- how many values each counter has
abbrev pub counts_of : List Loop → List ℕ
counts_of loops = map (λ l. count_below l.from l.until l.by) loops

-- the values of the counters in each group, those of the last one fastest
abbrev pub group_values : List Loop → List (List ℤ)
group_values loops = tuples (map (λ l. values_below l.from l.until l.advance) loops)

-- in a group lane l isn't masked where the last counter's value and l steps are below its bound; a controller without
-- counters has one lane
abbrev pub is_live : List Loop → List ℤ → (lane : ℕ) → Bool
is_live (l ∷ []) (v ∷ _) lane = int_lt (v +ℤ pos (lane * l.by)) l.until
is_live (l ∷ loops) (v ∷ values) lane = is_live loops values lane
is_live _ _ lane = true

-- whether some lane from the first up to the last isn't masked
abbrev pub is_some_up_to : (ℕ → Bool) → (first more : ℕ) → Bool
is_some_up_to live first zero = live first
is_some_up_to live first (suc more) = is_some_up_to live first more || live (first + suc more)

abbrev pub is_some_live : (ℕ → Bool) → (first last : ℕ) → Bool
is_some_live live first last = nat_le first last && is_some_up_to live first (last - first)

-- what a counter is in a group: its value, how much more it is from one lane to the next, and the lanes that aren't masked
pub record InGroup : Type 0 where
  pub value : ℤ
  pub lane_step : ℕ
  pub live : ℕ → Bool

-- the counters around, by number
abbrev pub Scope : Type 0
Scope = ℕ → InGroup

abbrev pub no_scope : Scope
no_scope c = record { value = pos 0; lane_step = 0; live = λ l. true }

-- only the last counter has lanes
abbrev pub lane_step : Loop → (others : List Loop) → ℕ
lane_step l [] = l.by
lane_step l _ = 0

abbrev pub with_counters : Scope → List Loop → List ℤ → (ℕ → Bool) → Scope
with_counters scope (l ∷ loops) (v ∷ values) live =
    with_counters (changed scope l.number (record { value = v; lane_step = lane_step l loops; live = live })) loops values live
with_counters scope _ _ live = scope

-- inside of a controller, in the group of these values
abbrev pub in_group : Scope → List Loop → List ℤ → Scope
in_group scope loops values = with_counters scope loops values (is_live loops values)

-- the word of a counter in a lane
abbrev pub count_word : InGroup → (lane : ℕ) → ℕ
count_word c lane = wrap int_type (c.value +ℤ pos (lane * c.lane_step))
