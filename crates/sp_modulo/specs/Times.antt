-- The times of operations that are done once in each group, where each group begins so many cycles, the interval, after the
-- one before: modulo scheduling, after Rau, "Iterative modulo scheduling" (MICRO 1994), without resources.
use Rattle.std.specs.Prelude.{◌≡◌, ℕ, ◌+◌, ◌*◌, ◌<◌, ◌≤◌, ◌==◌, max, List, [], ◌∷◌, length, filter, slice_index}
use Rattle.std.specs.List.{All}
use Rattle.sp_modulo.specs.declared.order.Order.{Order}

-- both operations are there
abbrev pub IsAmong : (count : ℕ) → Order → Type 0
IsAmong count o = (o.first < count) × (o.second < count)

-- they are there, and the gap is no longer than the first one takes
abbrev pub IsFitting : (latencies : List ℕ) → Order → Type 0
IsFitting latencies o = (o.first < length latencies) × (o.second < length latencies) × (o.gap ≤ slice_index latencies o.first)

-- the second operation, that many groups later, is at least the gap after the first
abbrev pub IsObeyed : (interval : ℕ) → (times : List ℕ) → Order → Type 0
IsObeyed interval times o = slice_index times o.first + o.gap ≤ slice_index times o.second + o.distance * interval

-- a time for each operation, by which all orders are obeyed
pub record Obey (count : ℕ) (orders : List Order) (interval : ℕ) (times : List ℕ) : Type 0 where
  pub one_each : length times ≡ count
  pub obeyed : All (IsObeyed interval times) orders

-- none of the times is later than the other one in its place
abbrev pub IsNoLater : (times others : List ℕ) → Type 0
IsNoLater times others = (i : ℕ) → slice_index times i ≤ slice_index others i

-- the least of all times by which the orders are obeyed
pub record IsLeast (count : ℕ) (orders : List Order) (interval : ℕ) (times : List ℕ) : Type 0 where
  pub obey : Obey count orders interval times
  pub least : (others : List ℕ) → Obey count orders interval others → IsNoLater times others

-- when the last operation is over
abbrev pub end_of : (latencies times : List ℕ) → ℕ
end_of [] times = 0
end_of (l ∷ latencies) [] = 0
end_of (l ∷ latencies) (t ∷ times) = max (t + l) (end_of latencies times)

-- the orders within one group
abbrev pub in_group : List Order → List Order
in_group orders = filter (λ o. o.distance == 0) orders

-- when the last operation is over at the least times that obey the orders within one group
pub record IsLatency (latencies : List ℕ) (orders : List Order) (latency : ℕ) : Type 0 where
  pub first : List ℕ
  pub least : IsLeast (length latencies) (in_group orders) 0 first
  pub over : latency ≡ end_of latencies first

-- all orders are obeyed, and all is over by then
pub record InTime (latencies : List ℕ) (orders : List Order) (latency interval : ℕ) (times : List ℕ) : Type 0 where
  pub obey : Obey (length latencies) orders interval times
  pub over : end_of latencies times ≤ latency

-- the least latency; for it the least interval; for both the least times
pub record IsSchedule (latencies : List ℕ) (orders : List Order) (latency interval : ℕ) (times : List ℕ) : Type 0 where
  pub latency_is : IsLatency latencies orders latency
  pub some_interval : 1 ≤ interval
  pub least_interval : (i : ℕ) (others : List ℕ) → 1 ≤ i → i < interval → ¬ InTime latencies orders latency i others
  pub in_time : InTime latencies orders latency interval times
  pub least_times : (others : List ℕ) → InTime latencies orders latency interval others → IsNoLater times others
