-- Laws of combinations in lanes, as statements.
use Rattle.std.specs.Prelude.{◌≡◌, ◌≤◌, ◌<◌, ℕ, true, IsTrue, List, [], Option}
use Rattle.sp_core.specs.Around.{Around, has_lane}
use Rattle.sp_core.specs.Invariant.{IsCore, is_small}
use Rattle.sp_core.specs.OperationRules.{are_operations_right}
use Rattle.sp_core.specs.PlainCore.{PlainOp, PlainCore}
use Rattle.sp_lanes.specs.Combined.{laned_ops}
use Rattle.sp_lanes.specs.Unrolled.{unrolled}
use Rattle.sp_lanes.specs.Within.{Within}
use Rattle.sp_lane_rules.specs.Copies.{OwnsInLanes}
use Rattle.sp_lane_rules.specs.CopiesRules.{ArePortsWritten}
use Rattle.sp_lane_rules.specs.UnrolledPlaces.{GoTogether}
use Rattle.sp_lane_rules.specs.CombinedMeetings.{IsMet}
use Rattle.sp_lane_rules.specs.CombinedStanding.{Combines}

-- the bodies of so many lanes of a controller, and a combination after them, if there is one, where each lane's place goes together
-- with that of the body, and its counter has those lanes
abbrev pub LanesKeepRules : (core lanes : PlainCore) → Type 0
LanesKeepRules core lanes =
    (around inside : Around) (counter p : ℕ) (in_lane : ℕ → Within) (own : List ℕ) (ops : List PlainOp) (comb : Option ℕ)
    → 1 ≤ p → ((l : ℕ) → l < p → GoTogether core lanes around inside (in_lane l)) → ((l : ℕ) → l < p → has_lane inside.counters counter l ≡ true)
    → IsMet ops comb → are_operations_right core around ops ≡ true → are_operations_right lanes inside (laned_ops counter in_lane own p ops comb) ≡ true

-- a core in lanes is a core where it is small, no combination owns a memory, arguments and outputs stand in the program's text,
-- and controllers of several lanes combine by meetings
abbrev pub KeepRules : PlainCore → Type 0
KeepRules core = IsCore core → OwnsInLanes core.root → ArePortsWritten core → Combines [] core.root → IsTrue (is_small (unrolled core)) → IsCore (unrolled core)
