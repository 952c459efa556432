-- Laws of cores in lanes, as statements.
use Rattle.std.specs.Prelude.{IsTrue, []}
use Rattle.sp_tree.specs.PlainProgram.{PlainProgram}
use Rattle.sp_core.specs.Invariant.{IsCore, is_small}
use Rattle.sp_core.specs.PlainCore.{PlainCore}
use Rattle.sp_lanes.specs.Unrolled.{unrolled}
use Rattle.sp_lane_rules.specs.Copies.{OwnsInLanes}
use Rattle.sp_lane_rules.specs.CopiesRules.{ArePortsWritten}
use Rattle.sp_lane_cores.specs.LanedMarks.{IsLaned}
use Rattle.sp_sugar.specs.Core.{core_of}
use Rattle.sp_lane_cores.specs.Standing.{StandsApart}

-- a core in lanes is a core where it is small, no combination owns a memory, arguments and outputs stand in the program's text,
-- combinations stand where they are marked, take words that stand before them, and have counters of their own
abbrev pub LanedKeepRules : PlainCore → Type 0
LanedKeepRules core =
    IsCore core → OwnsInLanes core.root → ArePortsWritten core → IsLaned core core.root → StandsApart [] core.root → IsTrue (is_small (unrolled core)) → IsCore (unrolled core)

-- the core of a program is such a one
abbrev pub ProgramStandsApart : PlainProgram → Type 0
ProgramStandsApart p = StandsApart [] (core_of p).root

-- in lanes it is a core
abbrev pub StaysCore : PlainProgram → Type 0
StaysCore p = IsCore (unrolled (core_of p))
