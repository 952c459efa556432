-- A law of whole programs in lanes, as a statement.
use Rattle.sp_tree.specs.PlainProgram.{PlainProgram}
use Rattle.sp_sugar.specs.Core.{core_of}
use Rattle.sp_lane_trees.specs.Outcomes.{EndsInLanes}

-- the core of a program ends in lanes as it does
abbrev pub ProgramEnds : PlainProgram → Type 0
ProgramEnds p = EndsInLanes (core_of p)
