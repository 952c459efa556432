-- Laws of controllers with stages in lanes, as statements.
use Rattle.std.specs.Prelude.{◌≡◌, ◌<◌, ℕ, List, ◌++◌}
use Rattle.sp_words.specs.declared.kind.Style.{Style}
use Rattle.sp_core.specs.Around.{Around, within, lanes_of}
use Rattle.sp_core.specs.Invariant.{IsCore}
use Rattle.sp_core.specs.PlainCore.{PlainCounter, PlainStages, outer, PlainCore}
use Rattle.sp_lanes.specs.Order.{memory_order}
use Rattle.sp_lanes.specs.Unrolled.{owned_in_lanes}
use Rattle.sp_lanes.specs.Within.{Within, in_lane, counters_in}
use Rattle.sp_lane_rules.specs.Copies.{OwnsInLanes}
use Rattle.sp_lane_groups.specs.InnersAlong.{GoesAlong, StandsIn}
use Rattle.sp_lane_trees.specs.OutersStages.{AllGoAlong, AllStandIn}

-- where a controller with stages stands, so do its stages in each lane
abbrev pub OutersStand : PlainCore → Type 0
OutersStand core =
    (around inside : Around) (earlier : List ℕ) (w : Within) (counters : List PlainCounter) (style : Style) (owned : List ℕ) (stages : PlainStages) (l : ℕ) → l < lanes_of counters → StandsIn core around inside earlier w (outer counters style owned stages)
    → AllStandIn core (within around counters owned) (within inside (counters_in w counters) (owned_in_lanes (memory_order core) counters owned w)) (earlier ++ owned) (in_lane (memory_order core) counters owned w l) stages

-- and it goes along where they do, and its body has one lane
abbrev pub OutersGo : PlainCore → Type 0
OutersGo core =
    IsCore core → OwnsInLanes core.root
    → (turns : ℕ) (around inside : Around) (earlier : List ℕ) (w : Within) (counters : List PlainCounter) (style : Style) (owned : List ℕ) (stages : PlainStages) → lanes_of counters ≡ 1 → StandsIn core around inside earlier w (outer counters style owned stages)
    → AllGoAlong core turns (within around counters owned) (in_lane (memory_order core) counters owned w 0) stages → GoesAlong core turns around w (outer counters style owned stages)
