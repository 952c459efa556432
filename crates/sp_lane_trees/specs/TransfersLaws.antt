-- A law of transfers in lanes, as a statement.
use Rattle.std.specs.Prelude.{ℕ, List}
use Rattle.sp_core.specs.Around.{Around}
use Rattle.sp_core.specs.Invariant.{IsCore}
use Rattle.sp_core.specs.PlainCore.{PlainNode, load, store, sparse, PlainCore}
use Rattle.sp_lanes.specs.Within.{Within}
use Rattle.sp_lane_rules.specs.Copies.{OwnsInLanes}
use Rattle.sp_lane_groups.specs.InnersAlong.{GoesAlong, StandsIn}

-- a node that moves words between a DRAM and a memory
abbrev pub IsTransfer : PlainNode → Type 0
IsTransfer (load r m spans) = Unit {0}
IsTransfer (store r m spans) = Unit {0}
IsTransfer (sparse kind r m index spans count par) = Unit {0}
IsTransfer node = ⊥

-- it goes along, wherever it stands
abbrev pub TransfersGo : PlainCore → Type 0
TransfersGo core =
    IsCore core → OwnsInLanes core.root → (turns : ℕ) (around inside : Around) (earlier : List ℕ) (w : Within) (node : PlainNode) → IsTransfer node
    → StandsIn core around inside earlier w node → GoesAlong core turns around w node
