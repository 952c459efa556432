-- Laws of programs of whose cores all runs are timed, as statements.
use Rattle.sp_tree.specs.PlainProgram.{PlainProgram}
use Rattle.sp_core.specs.PlainCore.{PlainCore}
use Rattle.sp_sugar.specs.Core.{core_of}
use Rattle.sp_lanes.specs.Unrolled.{unrolled}
use Rattle.sp_overlap.specs.Whole.{IsTimed}
use Rattle.sp_lane_programs.specs.Timed.{BodyTimed}

-- of a core in lanes
abbrev pub StaysTimed : PlainCore → Type 0
StaysTimed core = IsTimed core.root → IsTimed (unrolled core).root

-- of the core of such a program, in lanes
abbrev pub ProgramIsTimed : PlainProgram → Type 0
ProgramIsTimed p = BodyTimed p.mems p.body → IsTimed (unrolled (core_of p)).root
