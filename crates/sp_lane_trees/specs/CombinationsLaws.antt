-- A law of inner bodies that end in a combination, as a statement.
use Rattle.std.specs.Prelude.{ℕ, List, Some}
use Rattle.sp_core.specs.Around.{Around}
use Rattle.sp_core.specs.Invariant.{IsCore}
use Rattle.sp_core.specs.PlainCore.{PlainOp, PlainCounter, inner, PlainCore}
use Rattle.sp_lanes.specs.Within.{Within}
use Rattle.sp_lane_rules.specs.Copies.{OwnsInLanes}
use Rattle.sp_lane_cores.specs.LanedMarks.{Combination}
use Rattle.sp_lane_groups.specs.InnersAlong.{GoesAlong, StandsIn}
use Rattle.sp_lane_cores.specs.EndingsEnding.{IsOneWord, EndsIn}

-- an inner body that ends in a combination of one word goes along, in whatever number of lanes and by whatever operator
abbrev pub CombinedInnersGo : PlainCore → Type 0
CombinedInnersGo core =
    IsCore core → OwnsInLanes core.root
    → (turns : ℕ) (around inside : Around) (earlier : List ℕ) (w : Within) (counters : List PlainCounter) (owned : List ℕ) (ops : List PlainOp) (at : ℕ) (c : Combination) → IsOneWord c → EndsIn core owned ops at c
    → StandsIn core around inside earlier w (inner counters owned ops (Some at)) → GoesAlong core turns around w (inner counters owned ops (Some at))
