-- A law of the cores of programs in lanes, as a statement.
use Rattle.sp_tree.specs.PlainProgram.{PlainProgram}
use Rattle.sp_sugar.specs.Core.{core_of}
use Rattle.sp_lanes.specs.Unrolled.{unrolled}
use Rattle.sp_overlap.specs.Whole.{IsByLane}

-- in lanes, what a loop of the core of a program owns is used in one lane alone, and after all lanes
abbrev pub ProgramIsByLane : PlainProgram → Type 0
ProgramIsByLane p = IsByLane (unrolled (core_of p)) (unrolled (core_of p)).root
