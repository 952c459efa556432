-- A sink that keeps what it takes in memory.
use Rattle.std.specs.Prelude.{◌≡◌, ◌∷◌, length, ◌-◌, ◌&&◌, ◌++◌, Bool, not, [], is_some, nat_le, take, ℕ, ◌==◌, if◌then◌else◌, List, map, find, min, Some, None}
use Rattle.std.specs.Option.{unwrap_or, option_map}
use Rattle.std.specs.Prelude.{Option}
use Rattle.sp_edges.specs.declared.memory_output.SinkStop.{SinkStop}
use Rattle.sp_edges.specs.Counts.{one_more}
use Rattle.sp_edges.specs.Memory.{all_past, next_number}

-- a sink in memory: the bytes taken, the room left, the stops, the next call, the count of faults
pub record Store : Type 0 where
  pub bytes : List ℕ
  pub room : ℕ
  pub stops : List SinkStop
  pub next : Option ℕ
  pub faults : ℕ

-- how many bytes the first stop of the next call lets through, if that call has one
abbrev pub stop_at : List SinkStop → Option ℕ → Option ℕ
stop_at stops None = None
stop_at stops (Some next) = option_map (λ stop. stop.takes) (find (λ stop. stop.call == next) stops)

-- how many bytes of a piece of this length the next call takes
abbrev pub taken_of : Store → ℕ → ℕ
taken_of store len = min (min (unwrap_or (stop_at store.stops store.next) len) len) store.room

-- the next call takes a whole piece of this length
abbrev pub takes_whole : Store → ℕ → Bool
takes_whole store len = not (is_some (stop_at store.stops store.next)) && nat_le len store.room

-- the sink after a piece was put
abbrev pub after_put : Store → List ℕ → Store
after_put store piece =
    let count = taken_of store (length piece) in
    record store {
      bytes = store.bytes ++ take count piece;
      room = store.room - count;
      next = next_number store.next;
      faults = if takes_whole store (length piece) then store.faults else one_more store.faults;
    }

-- the sink after these pieces were put, one after another
abbrev pub after_puts : Store → List (List ℕ) → Store
after_puts store [] = store
after_puts store (piece ∷ pieces) = after_puts (after_put store piece) pieces

abbrev pub WasPut : Store → List (List ℕ) → Store → Type 0
WasPut before pieces after = after ≡ after_puts before pieces

-- the sink at its beginning
abbrev pub new_store : ℕ → List SinkStop → Store
new_store room stops = record { bytes = []; room = room; stops = stops; next = Some 0; faults = 0 }

-- the room within which no put fails: all that is left where no stop is still to come, else none
abbrev pub sure_room_of : Store → ℕ
sure_room_of store = if all_past (map (λ stop. stop.call) store.stops) store.next then store.room else 0

-- pieces one after another
pub after_puts-append : (before middle after : Store) (pieces more : List (List ℕ)) →
    WasPut before pieces middle → WasPut middle more after → WasPut before (pieces ++ more) after
after_puts-append before middle after [] more first second = rw (← first) second
after_puts-append before middle after (piece ∷ pieces) more first second = after_puts-append (after_put before piece) middle after pieces more first second
