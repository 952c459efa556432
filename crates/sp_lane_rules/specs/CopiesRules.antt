-- What the memories and ports of a core keep, where its lanes stand one after the other.
use Rattle.std.specs.Prelude.{◌≡◌, ℕ, true, IsTrue, []}
use Rattle.sp_core.specs.Invariant.{IsCore, owned_in, have_owners}
use Rattle.sp_core.specs.MemoryRules.{are_memories_right, are_ports_right}
use Rattle.sp_core.specs.NodeRules.{is_owned_once}
use Rattle.sp_core.specs.PlainCore.{PlainCore}
use Rattle.sp_lanes.specs.Order.{is_port, is_written}
use Rattle.sp_lanes.specs.Unrolled.{unrolled}
use Rattle.sp_lane_rules.specs.Copies.{OwnsInLanes}

-- arguments and outputs stand in the text of the program
abbrev pub ArePortsWritten : PlainCore → Type 0
ArePortsWritten core = (m : ℕ) → is_port core m ≡ true → is_written core m ≡ true

-- what is right of memories, of ports and of owners is right of those of lanes
abbrev pub KeepMemoryRules : PlainCore → Type 0
KeepMemoryRules core =
    IsCore core → OwnsInLanes core.root → ArePortsWritten core
    → IsTrue (are_memories_right (unrolled core)) × IsTrue (are_ports_right (unrolled core)) × IsTrue (have_owners (unrolled core))
    × (is_owned_once (unrolled core) [] (owned_in (unrolled core).root) ≡ true)
