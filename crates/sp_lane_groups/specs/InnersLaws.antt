-- A law of inner bodies in lanes, as a statement.
use Rattle.std.specs.Prelude.{◌≡◌, ◌⊎◌, ℕ, List, Option, None}
use Rattle.sp_core.specs.Around.{Around, lanes_of}
use Rattle.sp_core.specs.Invariant.{IsCore}
use Rattle.sp_core.specs.PlainCore.{PlainOp, PlainCounter, inner, PlainCore}
use Rattle.sp_lanes.specs.Within.{Within}
use Rattle.sp_lane_rules.specs.Copies.{OwnsInLanes}
use Rattle.sp_lane_groups.specs.InnersAlong.{GoesAlong, StandsIn}

-- an inner body goes along where it has one lane or no combination
abbrev pub InnersGo : PlainCore → Type 0
InnersGo core =
    IsCore core → OwnsInLanes core.root
    → (turns : ℕ) (around inside : Around) (earlier : List ℕ) (w : Within) (counters : List PlainCounter) (owned : List ℕ) (ops : List PlainOp) (comb : Option ℕ) → (comb ≡ None) ⊎ (lanes_of counters ≡ 1)
    → StandsIn core around inside earlier w (inner counters owned ops comb) → GoesAlong core turns around w (inner counters owned ops comb)
