-- A law of controllers with stages in several lanes, as a statement.
use Rattle.std.specs.Prelude.{◌≡◌, ◌<◌, ◌==◌, ℕ, false, List}
use Rattle.sp_words.specs.declared.kind.Style.{Style}
use Rattle.sp_core.specs.Around.{Around, within, lanes_of}
use Rattle.sp_core.specs.Declarations.{is_stream}
use Rattle.sp_core.specs.Invariant.{IsCore}
use Rattle.sp_core.specs.PlainCore.{PlainCounter, PlainStages, outer, no_stage, more_stage, PlainCore}
use Rattle.sp_lanes.specs.Order.{memory_order}
use Rattle.sp_lanes.specs.Within.{Within, in_lane}
use Rattle.sp_lane_rules.specs.Copies.{OwnsInLanes, OwnInLanes}
use Rattle.sp_lane_cores.specs.LanedMarks.{NoneCombines}
use Rattle.sp_lane_groups.specs.InnersAlong.{GoesAlong, StandsIn}
use Rattle.sp_lane_trees.specs.OutersStages.{AllGoAlong}

-- stages are of the first lane, as they are before lanes stand one after the other
abbrev pub AreOfFirst : PlainStages → Type 0
AreOfFirst no_stage = Unit {0}
AreOfFirst (more_stage first last comb node rest) = (first ≡ 0) × (last ≡ 0) × AreOfFirst rest

-- a controller of several lanes that is no stream block, and whose stages own in each lane what they own, goes along where none of
-- its stages combines, and each goes along in each lane
abbrev pub StagesGo : PlainCore → Type 0
StagesGo core =
    IsCore core → OwnsInLanes core.root
    → (turns : ℕ) (around inside : Around) (earlier : List ℕ) (w : Within) (counters : List PlainCounter) (style : Style) (owned : List ℕ) (stages : PlainStages) → (lanes_of counters == 1) ≡ false → is_stream style ≡ false
    → NoneCombines core stages → AreOfFirst stages → OwnInLanes stages → StandsIn core around inside earlier w (outer counters style owned stages)
    → ((l : ℕ) → l < lanes_of counters → AllGoAlong core turns (within around counters owned) (in_lane (memory_order core) counters owned w l) stages) → GoesAlong core turns around w (outer counters style owned stages)
