-- A law of the words of lanes, as a statement.
use Rattle.std.specs.Prelude.{◌≡◌, ◌==◌, ℕ, true, false, List}
use Rattle.sp_core.specs.Around.{Around, within, lanes_of}
use Rattle.sp_core.specs.History.{Entry}
use Rattle.sp_core.specs.OperationRules.{are_operations_right}
use Rattle.sp_core.specs.PlainCore.{PlainOp, PlainCounter, PlainCore}
use Rattle.sp_core.specs.Scope.{Scope}
use Rattle.sp_core.specs.Step.{in_order}
use Rattle.sp_core.specs.Store.{Store}
use Rattle.sp_core.specs.Step.{went}
use Rattle.sp_lanes.specs.Bodies.{Body, lane_bodies, all_ops}
use Rattle.sp_lanes.specs.Order.{memory_order}
use Rattle.sp_lanes.specs.Unrolled.{unrolled, last_number, owned_in_lanes}
use Rattle.sp_lanes.specs.Within.{Within, in_lane}
use Rattle.sp_lane_groups.specs.LiveStores.{HoldAlike, ArePlain}
use Rattle.sp_lane_groups.specs.Groups.{iteration, lanes_from, EachMasked, IsGroup, LeavesOutside}
use Rattle.sp_lane_groups.specs.Waiting.{ResetsFirst, waits_in}
use Rattle.sp_lane_groups.specs.WordsStanding.{LanesStand}

-- after the lanes of a group, one after the other, what may be used at the controller holds what it does in the core after the
-- iterations of the group, and the words of each iteration stand at the places of its lane's body
abbrev pub WordsStand : PlainCore → Type 0
WordsStand core =
    (around inside : Around) (w : Within) (counters : List PlainCounter) (owned : List ℕ) (plain : ℕ → Scope) (lanes : Scope) (count : ℕ) → IsGroup core around inside w counters owned plain lanes count → (lanes_of counters == 1) ≡ false
    → (ops : List PlainOp) (s t after : Store) (groups : List (List Entry)) → ArePlain ops → are_operations_right core (within around counters owned) ops ≡ true → ResetsFirst (waits_in core owned) ops
    → HoldAlike core around w s t → in_order (λ l. iteration core (plain l) owned ops) (lanes_from 0 count) s ≡ went groups after → EachMasked ops groups
    → let bodies : List Body = lane_bodies (last_number counters) (in_lane (memory_order core) counters owned w) ops owned (lanes_of counters) in
    (es : List Entry) × (ended : Store) × (iteration (unrolled core) lanes (owned_in_lanes (memory_order core) counters owned w) (all_ops bodies) t ≡ went es ended)
    × HoldAlike core around w after ended × LeavesOutside core around w counters owned t ended
    × LanesStand (lanes (last_number counters)).live es 0 bodies groups
