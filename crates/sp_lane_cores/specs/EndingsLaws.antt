-- A law of the cores of programs, as a statement.
use Rattle.sp_tree.specs.PlainProgram.{PlainProgram}
use Rattle.sp_sugar.specs.Core.{core_of}
use Rattle.sp_lane_cores.specs.EndingsEnding.{IsEnded}

-- each combination of the core of a program ends its body
abbrev pub ProgramEnds : PlainProgram → Type 0
ProgramEnds p = IsEnded (core_of p) (core_of p).root
