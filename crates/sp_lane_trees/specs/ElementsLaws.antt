-- A law of controllers with stages in several lanes whose last stage combines the elements of a memory, as a statement.
use Rattle.std.specs.Prelude.{◌≡◌, ◌<◌, ◌==◌, ℕ, Bool, false, List}
use Rattle.sp_words.specs.declared.kind.Style.{Style}
use Rattle.sp_core.specs.Around.{Around, within, lanes_of}
use Rattle.sp_core.specs.Declarations.{is_stream, is_among}
use Rattle.sp_core.specs.Invariant.{IsCore}
use Rattle.sp_core.specs.PlainCore.{PlainCounter, PlainStages, outer, PlainCore}
use Rattle.sp_lanes.specs.Order.{memory_order}
use Rattle.sp_lanes.specs.Within.{Within, in_lane}
use Rattle.sp_lane_rules.specs.Copies.{OwnsInLanes, OwnInLanes}
use Rattle.sp_lane_cores.specs.Standing.{StandsApart}
use Rattle.sp_lane_groups.specs.InnersAlong.{GoesAlong, StandsIn}
use Rattle.sp_lane_trees.specs.OutersStages.{AllGoAlong}
use Rattle.sp_lane_trees.specs.StagesLaws.{AreOfFirst}
use Rattle.sp_lane_trees.specs.ElementsReduction.{LastElements}
use Rattle.sp_lane_groups.specs.InnersAlike.{own_stages}

-- a place stands in the first lane of each counter but of these
abbrev pub InFirstLane : (numbers : List ℕ) → Within → Type 0
InFirstLane numbers w = (c : ℕ) → is_among c numbers ≡ false → w.lane c ≡ 0

-- a controller of several lanes that is no stream block, and whose stages own in each lane what they own, goes along where its last
-- stage combines elements by counters of their own, and each of the others goes along in each lane
abbrev pub ElementsGo : PlainCore → Type 0
ElementsGo core =
    IsCore core → OwnsInLanes core.root
    → (turns : ℕ) (around inside : Around) (earlier : List ℕ) (w : Within) (counters : List PlainCounter) (style : Style) (owned : List ℕ) (stages : PlainStages) → (lanes_of counters == 1) ≡ false → is_stream style ≡ false
    → (is : ℕ → Bool) → LastElements core owned is stages → AreOfFirst stages → OwnInLanes stages → StandsIn core around inside earlier w (outer counters style owned stages)
    → (numbers : List ℕ) → InFirstLane numbers w → StandsApart numbers (outer counters style owned stages)
    → ((l : ℕ) → l < lanes_of counters → AllGoAlong core turns (within around counters owned) (in_lane (memory_order core) counters owned w l) (own_stages stages)) → GoesAlong core turns around w (outer counters style owned stages)
