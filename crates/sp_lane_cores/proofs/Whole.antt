-- A core in lanes keeps the rules of cores, and so does that of a program.
use Rattle.std.proofs.Common.{[]}
use Rattle.sp_tree.specs.Invariant.{IsProgram}
use Rattle.sp_tree.specs.PlainProgram.{PlainProgram}
use Rattle.sp_core.specs.Around.{nothing}
use Rattle.sp_core.specs.PlainCore.{PlainCore}
use Rattle.sp_sugar.specs.Core.{core_of}
use Rattle.sp_sugar.proofs.Cores.{core_is_right}
use Rattle.sp_lane_cores.proofs.LanedMarked.{programs_laned}
use Rattle.sp_lane_cores.proofs.LanedPorts.{may_have_lanes}
use Rattle.sp_lane_rules.proofs.UnrolledWhole.{each_right}
use Rattle.sp_lane_cores.proofs.SizeWhole.{program_small}
use Rattle.sp_lane_rules.proofs.CombinedWhole.{keep_rules}
use Rattle.sp_lane_cores.specs.Laws.{LanedKeepRules, StaysCore}
use Rattle.sp_lane_cores.proofs.Apart.{program_apart}
use Rattle.sp_lane_cores.proofs.LanedWhole.{node_combines}

pub laned_keep : (core : PlainCore) → LanedKeepRules core
laned_keep core h owns written laned apart small =
    keep_rules core h owns written (node_combines core core.root [] nothing laned apart owns (each_right core core.root nothing [] h.nodes)) small

pub program_stays : (p : PlainProgram) → IsProgram p → StaysCore p
program_stays p h =
    let may = may_have_lanes p in
    laned_keep (core_of p) (core_is_right p h) may.0 may.1 (programs_laned p h) (program_apart p h) (program_small p h)
