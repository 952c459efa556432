-- A law of controllers with stages in several lanes whose last stage combines a word, as a statement.
use Rattle.std.specs.Prelude.{◌≡◌, ◌<◌, ◌==◌, ℕ, Bool, false, List}
use Rattle.sp_words.specs.declared.kind.Style.{Style}
use Rattle.sp_core.specs.Around.{Around, within, lanes_of}
use Rattle.sp_core.specs.Declarations.{is_stream}
use Rattle.sp_core.specs.Invariant.{IsCore}
use Rattle.sp_core.specs.PlainCore.{PlainCounter, PlainStages, outer, PlainCore}
use Rattle.sp_lanes.specs.Order.{memory_order}
use Rattle.sp_lanes.specs.Within.{Within, in_lane}
use Rattle.sp_lane_rules.specs.Copies.{OwnsInLanes, OwnInLanes}
use Rattle.sp_lane_groups.specs.InnersAlong.{GoesAlong, StandsIn}
use Rattle.sp_lane_trees.specs.OutersStages.{AllGoAlong}
use Rattle.sp_lane_trees.specs.StagesLaws.{AreOfFirst}
use Rattle.sp_lane_groups.specs.InnersAlike.{own_stages}
use Rattle.sp_lane_trees.specs.ReductionsReduction.{LastReduces}

-- a controller of several lanes that is no stream block, and whose stages own in each lane what they own, goes along where its last
-- stage combines a word and each of the others goes along in each lane
abbrev pub ReductionsGo : PlainCore → Type 0
ReductionsGo core =
    IsCore core → OwnsInLanes core.root
    → (turns : ℕ) (around inside : Around) (earlier : List ℕ) (w : Within) (counters : List PlainCounter) (style : Style) (owned : List ℕ) (stages : PlainStages) → (lanes_of counters == 1) ≡ false → is_stream style ≡ false
    → (is : ℕ → Bool) → LastReduces core owned is stages → AreOfFirst stages → OwnInLanes stages → StandsIn core around inside earlier w (outer counters style owned stages)
    → ((l : ℕ) → l < lanes_of counters → AllGoAlong core turns (within around counters owned) (in_lane (memory_order core) counters owned w l) (own_stages stages)) → GoesAlong core turns around w (outer counters style owned stages)
