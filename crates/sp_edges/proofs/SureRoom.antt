-- A put within the sure room takes the whole piece, and leaves the rest of the room sure.
use Rattle.std.proofs.Common.{arith, ◌≡◌, ℕ, ◌+◌, ◌-◌, ◌<◌, ◌≤◌, Bool, true, false, List, [], ◌∷◌, map, find, Some, None, refl, cond, nat_lt, ◌==◌, Option}
use Rattle.std.proofs.lemmas.Grind.{common_steps}
use Rattle.std.specs.List.{list_all}
use Rattle.sp_edges.specs.declared.memory_output.SinkStop.{SinkStop}
use Rattle.sp_edges.specs.Memory.{all_past, next_number}
use Rattle.sp_edges.specs.Store.{Store, stop_at, sure_room_of}
use Rattle.sp_edges.proofs.Sure.{all_past-next_number}

abbrev stop_calls : List SinkStop → List ℕ
stop_calls stops = map (λ stop. stop.call) stops

past-not_found : (stops : List SinkStop) (next : ℕ) → list_all (λ call. nat_lt call next) (stop_calls stops) ≡ true → find (λ stop. stop.call == next) stops ≡ None
past-not_found [] next past = refl
past-not_found (stop ∷ stops) next past = grind (arith, common_steps, past-not_found stops next)

-- no call whose stop is past is stopped
stop_at-past : (stops : List SinkStop) (next : Option ℕ) → all_past (stop_calls stops) next ≡ true → stop_at stops next ≡ None
stop_at-past stops None past = refl
stop_at-past stops (Some next) past = rw (past-not_found stops next past)

pub record IsWithin (store : Store) (len : ℕ) : Type 0 where
  pub past : all_past (stop_calls store.stops) store.next ≡ true
  pub fits : len ≤ store.room

by_past : (store : Store) (len : ℕ) (past : Bool) → all_past (stop_calls store.stops) store.next ≡ past → 0 < len → len ≤ cond past store.room 0 → IsWithin store len
by_past store len true past some fits = record { past = past; fits = fits }
by_past store len false past some fits = absurd (omega arith)

-- a sure room that isn't empty is the room that is left
pub sure_room-within : (store : Store) (len : ℕ) → 0 < len → len ≤ sure_room_of store → IsWithin store len
sure_room-within store len some fits = by_past store len (all_past (stop_calls store.stops) store.next) refl some fits

pub no_stop-within : (store : Store) (len : ℕ) → IsWithin store len → stop_at store.stops store.next ≡ None
no_stop-within store len within = stop_at-past store.stops store.next within.past

-- what is left of the room is sure
pub sure_room-after : (before after : Store) (len : ℕ) → IsWithin before len → after.stops ≡ before.stops → after.next ≡ next_number before.next → after.room ≡ before.room - len →
    sure_room_of after + len ≡ sure_room_of before
sure_room-after before after len within stops next room =
    let later = all_past-next_number (stop_calls before.stops) before.next within.past in
    rw (stops, next, room, later, within.past) (omega (arith, within.fits))
