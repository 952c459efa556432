-- Laws of the cores of programs, as statements.
use Rattle.sp_core.specs.PlainCore.{PlainCore}
use Rattle.sp_lane_rules.specs.Copies.{OwnsInLanes}
use Rattle.sp_lane_rules.specs.CopiesRules.{ArePortsWritten}

-- no combination owns a memory, and arguments and outputs stand in the text
abbrev pub MayHaveLanes : PlainCore → Type 0
MayHaveLanes core = OwnsInLanes core.root × ArePortsWritten core
