-- Laws of counters, as statements.
use Rattle.std.specs.Prelude.{◌≡◌, ℕ, zero, suc, ◌+◌, ◌<◌, ◌≤◌, ◌^◌, nat_lt, Bool, true, false, if◌then◌else◌, List, [], ◌∷◌, map, length, slice_index, slice_index_or}
use Rattle.sp_words.specs.Types.{int_type}
use Rattle.sp_words.specs.Words.{wrap}
use Rattle.sp_netlist.specs.Signals.{Signals}
use Rattle.sp_gates.specs.Tested.{is_on}
use Rattle.sp_core.specs.Elements.{index_value}
use Rattle.sp_core.specs.Scope.{Loop, group_values, is_live}
use Rattle.sp_counters.specs.declared.part.Count.{Count}
use Rattle.sp_counters.specs.declared.part.Counters.{Counters}
use Rattle.sp_counters.specs.declared.part.Counted.{Counted}
use Rattle.sp_counters.specs.Counting.{advance_of, lanes_of, CountsGroups}

-- a loop of the run has the bounds that a counter's nets have in a cycle, which are words of `Int`, and its step
pub record IsLoopAt (s : Signals) (cycle : ℕ) (c : Count) (l : Loop) : Type 0 where
  pub from : l.from ≡ index_value (s.net cycle c.from)
  pub until : l.until ≡ index_value (s.net cycle c.until)
  pub from_fits : s.net cycle c.from < 2 ^ 32
  pub until_fits : s.net cycle c.until < 2 ^ 32
  pub by : l.by ≡ c.by
  pub advance : l.advance ≡ advance_of c
  pub goes_on : 1 ≤ l.advance

pub data AreLoopsAt (s : Signals) (cycle : ℕ) : List Count → List Loop → Type 0 where
  no_loop : AreLoopsAt s cycle [] []
  one_loop : {c : Count} {l : Loop} {counts : List Count} {loops : List Loop} → IsLoopAt s cycle c l → AreLoopsAt s cycle counts loops → AreLoopsAt s cycle (c ∷ counts) (l ∷ loops)

-- how many steps there are in so many cycles after one
abbrev pub steps_after : (step : ℕ → Bool) → (begun cycles : ℕ) → ℕ
steps_after step begun zero = 0
steps_after step begun (suc n) = if step (begun + suc n) then suc (steps_after step begun n) else steps_after step begun n

-- in a cycle the counters are those of group k of a loop: `more` tells whether there is one; the words are its values, and a
-- lane's mask tells whether it has an iteration
pub record AreAtGroup (s : Signals) (part : Counters) (nets : Counted) (loops : List Loop) (k cycle : ℕ) : Type 0 where
  pub more : is_on s nets.more cycle ≡ nat_lt k (length (group_values loops))
  pub words : k < length (group_values loops) → map (λ n. s.net cycle n.value) nets.counters.items ≡ map (wrap int_type) (slice_index_or (group_values loops) k [])
  pub masks : (lane : ℕ) → k < length (group_values loops) → lane < lanes_of part.counters.items → is_on s (slice_index nets.masks.items lane) cycle ≡ is_live loops (slice_index_or (group_values loops) k []) lane

-- Counters that are started in a cycle, and not again up to another, have in the cycle after that one gone on by as many groups
-- as there were steps since.
abbrev pub CountersRunThroughGroups : Type 0
CountersRunThroughGroups =
    (s : Signals) (part : Counters) (nets : Counted) (loops : List Loop) (begun cycles : ℕ) → CountsGroups s part nets → AreLoopsAt s begun part.counters.items loops
    → is_on s part.start begun ≡ true → ((t : ℕ) → begun < t → t ≤ begun + cycles → is_on s part.start t ≡ false)
    → AreAtGroup s part nets loops (steps_after (is_on s part.step) begun cycles) (begun + 1 + cycles)
