-- Where the least interval lies.
use Rattle.std.proofs.Common.{ℕ, ◌+◌, ◌*◌, ◌≤◌, List, arith, mul-le-mul_left}
use Rattle.sp_modulo.specs.declared.order.Order.{Order}
use Rattle.sp_modulo.specs.Searching.{IsWithin, IsLeastInterval}
use Rattle.sp_modulo.specs.Times.{IsObeyed}

pub record IsBetween (limits : List ℕ) (orders : List Order) (low high : ℕ) : Type 0 where
  pub some : 1 ≤ low
  pub ordered : low ≤ high
  pub below : IsLeastInterval limits orders low
  pub possible : (times : List ℕ) × IsWithin limits orders high times

-- what obeys orders at an interval obeys them at a greater one
obeyed_later : (interval later : ℕ) (times : List ℕ) (o : Order) → interval ≤ later → IsObeyed interval times o → IsObeyed later times o
obeyed_later interval later times o h obeyed = let k : o.distance * interval ≤ o.distance * later = mul-le-mul_left o.distance h in omega arith

pub within_later : (limits : List ℕ) (orders : List Order) (interval later : ℕ) (times : List ℕ) → interval ≤ later → IsWithin limits orders interval times → IsWithin limits orders later times
within_later limits orders interval later times h w = record {
  obey = record { one_each = w.obey.one_each; obeyed = λ k d lt. obeyed_later interval later times _ h (w.obey.obeyed k d lt) };
  within = w.within;
}

-- where there are none at an interval, there are none at a lesser one
pub none_up_to : (limits : List ℕ) (orders : List Order) (interval : ℕ) → ((times : List ℕ) → ¬ IsWithin limits orders interval times) → IsLeastInterval limits orders (interval + 1)
none_up_to limits orders interval none i times some less w = none times (within_later limits orders i interval times (omega arith) w)
