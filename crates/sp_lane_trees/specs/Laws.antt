-- A law of all nodes in lanes, as a statement.
use Rattle.std.specs.Prelude.{ℕ, List}
use Rattle.sp_core.specs.Around.{Around}
use Rattle.sp_core.specs.Invariant.{IsCore}
use Rattle.sp_core.specs.PlainCore.{PlainNode, PlainCore}
use Rattle.sp_lanes.specs.Within.{Within}
use Rattle.sp_lane_rules.specs.Copies.{OwnsInLanes}
use Rattle.sp_lane_cores.specs.EndingsEnding.{IsEnded}
use Rattle.sp_lane_cores.specs.Standing.{StandsApart}
use Rattle.sp_lane_groups.specs.InnersAlong.{GoesAlong, StandsIn}
use Rattle.sp_lane_trees.specs.ElementsLaws.{InFirstLane}
use Rattle.sp_lane_trees.specs.Words.{CombinesWords}

-- a node goes along wherever it stands, where no combination owns a memory, combinations end their bodies, and a controller with
-- stages has one lane, or none of its stages combines, or the last one combines a word, or elements by counters of their own
abbrev pub NodesGo : PlainCore → Type 0
NodesGo core =
    IsCore core → OwnsInLanes core.root → (turns : ℕ) (around inside : Around) (earlier : List ℕ) (w : Within) (node : PlainNode)
    → StandsIn core around inside earlier w node → OwnsInLanes node → IsEnded core node → CombinesWords core node
    → (numbers : List ℕ) → InFirstLane numbers w → StandsApart numbers node → GoesAlong core turns around w node
