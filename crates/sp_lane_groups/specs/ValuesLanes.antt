-- The iterations of a group of lanes.
use Rattle.std.specs.Prelude.{◌≡◌, ◌<◌, ◌≤◌, ℕ, true, false, ℤ, List, [], ◌∷◌, length, map, filter}
use Rattle.sp_core.specs.Around.{lanes_of}
use Rattle.sp_core.specs.Elements.{numbers_below}
use Rattle.sp_core.specs.PlainCore.{PlainCounter}
use Rattle.sp_core.specs.Scope.{Loop, is_live}
use Rattle.sp_lane_groups.specs.LiveStores.{lane_values}

-- a counter goes on by one at least, and has one lane at least
abbrev pub GoOn : List PlainCounter → Type 0
GoOn [] = Unit {0}
GoOn (c ∷ counters) = (1 ≤ c.by) × (1 ≤ c.par) × GoOn counters

-- by the counters of a controller, its loops in a run, and the values of its counters in the first lane of a group
module _ (counters : List PlainCounter) (loops : List Loop) (values : List ℤ) where
  -- the lanes that have an iteration
  abbrev pub live_lanes : List ℕ
  live_lanes = filter (is_live loops values) (numbers_below (lanes_of counters))

  -- the values of the counters in each of them
  abbrev pub iterations_of : List (List ℤ)
  iterations_of = map (λ l. lane_values counters l values) live_lanes

  -- so many lanes have an iteration, at least one: the first ones
  pub record AreFirst (count : ℕ) : Type 0 where
    pub some : 1 ≤ count
    pub most : count ≤ lanes_of counters
    pub live : (l : ℕ) → l < count → is_live loops values l ≡ true
    pub masked : (l : ℕ) → count ≤ l → l < lanes_of counters → is_live loops values l ≡ false
    pub all : live_lanes ≡ numbers_below count
    pub values_long : length values ≡ length counters
