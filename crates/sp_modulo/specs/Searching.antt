-- What the parts of a search for the least interval know of each other.
use Rattle.std.specs.Prelude.{ℕ, ◌<◌, ◌≤◌, List, length}
use Rattle.sp_modulo.specs.declared.order.Order.{Order}
use Rattle.sp_modulo.specs.Times.{Obey, IsNoLater}

-- times by which the orders are obeyed, none of them past its limit
pub record IsWithin (limits : List ℕ) (orders : List Order) (interval : ℕ) (times : List ℕ) : Type 0 where
  pub obey : Obey (length limits) orders interval times
  pub within : IsNoLater times limits

-- at no lesser interval there are any
abbrev pub IsLeastInterval : List ℕ → List Order → ℕ → Type 0
IsLeastInterval limits orders interval = (i : ℕ) (times : List ℕ) → 1 ≤ i → i < interval → ¬ IsWithin limits orders i times
