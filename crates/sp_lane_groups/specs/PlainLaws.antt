-- A law of the cores of programs, as a statement.
use Rattle.sp_tree.specs.PlainProgram.{PlainProgram}
use Rattle.sp_sugar.specs.Core.{core_of}
use Rattle.sp_lane_groups.specs.PlainNodes.{IsNodePlain}

-- each list of the core of a program is plain
abbrev pub HasPlainCore : PlainProgram → Type 0
HasPlainCore p = IsNodePlain (core_of p).root
