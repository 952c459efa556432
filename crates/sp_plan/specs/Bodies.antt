-- When the times of an inner body are right.
use Rattle.std.specs.Prelude.{ℕ, ◌+◌, ◌*◌, ◌==◌, nat_le, Bool, true, false, ◌&&◌, not, List, [], ◌∷◌, map, slice_index, Option, if◌then◌else◌}
use Rattle.std.specs.List.{list_all}
use Rattle.sp_bank.specs.Banking.{Banking}
use Rattle.sp_core.specs.declared.access.Meet.{Meet}
use Rattle.sp_core.specs.Latency.{latency}
use Rattle.sp_core.specs.PlainCore.{PlainOp, PlainCore}
use Rattle.sp_modulo.specs.declared.order.Order.{Order}
use Rattle.sp_modulo.specs.Times.{end_of}
use Rattle.sp_plan.specs.Orders.{body_orders}

-- an order is kept by times at an interval
abbrev pub is_kept : (interval : ℕ) → (times : List ℕ) → Order → Bool
is_kept interval times o = nat_le (slice_index times o.first + o.gap) (slice_index times o.second + o.distance * interval)

module _ (core : PlainCore) where
  abbrev pub latencies : List PlainOp → List ℕ
  latencies ops = map (latency core) ops

  -- each operation begins when the one before is over
  abbrev pub are_in_turn : (begin : ℕ) → List PlainOp → (times : List ℕ) → Bool
  are_in_turn t [] [] = true
  are_in_turn t (op ∷ ops) (s ∷ times) = (s == t) && are_in_turn (t + latency core op) ops times
  are_in_turn t _ _ = false

  module _ (schemes : List (Option Banking)) (meets : List Meet) where
    abbrev pub keep_orders : (number : ℕ) → List PlainOp → (times : List ℕ) → (ii : ℕ) → Bool
    keep_orders number ops times ii = list_all (is_kept ii times) (body_orders core ops schemes number meets)

    -- a serial body does its operations one after the other, a group at a time; a stage of a `Stream` block is one
    abbrev pub are_times_right : (number : ℕ) → (streamed : Bool) → List PlainOp → (times : List ℕ) → (ii latency : ℕ) → (serial : Bool) → Bool
    are_times_right number streamed ops times ii latency serial =
        (nat_le 1 ii && (latency == end_of (latencies ops) times))
        && (if serial then are_in_turn 0 ops times && nat_le latency ii else not streamed && keep_orders number ops times ii)
