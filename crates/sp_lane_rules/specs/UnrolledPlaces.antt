-- When a place in a core and one in the same core in lanes go together.
use Rattle.std.specs.Prelude.{◌≡◌, ℕ, true}
use Rattle.sp_core.specs.Around.{Around, has_lane, is_usable}
use Rattle.sp_core.specs.Declarations.{mem}
use Rattle.sp_core.specs.PlainCore.{PlainCore}
use Rattle.sp_lanes.specs.Within.{Within}

-- the counters around are the same, each has the lane in which the place stands, and what may be used at the one may be used
-- at the other by the number that it has there, and is declared alike
pub record GoTogether (core lanes : PlainCore) (around inside : Around) (w : Within) : Type 0 where
  pub counters : inside.counters ≡ around.counters
  pub in_lanes : (c l : ℕ) → has_lane around.counters c l ≡ true → has_lane around.counters c (w.lane c) ≡ true
  pub memories : (m : ℕ) → is_usable core around m ≡ true → (is_usable lanes inside (w.number m) ≡ true) × (mem lanes (w.number m) ≡ mem core m)
