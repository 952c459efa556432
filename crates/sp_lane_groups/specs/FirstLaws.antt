-- Laws of the cores of programs, as statements.
use Rattle.std.specs.Prelude.{[]}
use Rattle.sp_tree.specs.PlainProgram.{PlainProgram}
use Rattle.sp_core.specs.Around.{nothing}
use Rattle.sp_sugar.specs.Core.{core_of}
use Rattle.sp_lanes.specs.Order.{memory_order}
use Rattle.sp_lanes.specs.Within.{outside}
use Rattle.sp_lane_groups.specs.InnersAlong.{BodiesResetFirst, StandsIn}

-- in each inner body of the core of a program what it owns is reset before it is used, where it has a reset operation
abbrev pub ResetsFirstIn : PlainProgram → Type 0
ResetsFirstIn p = BodiesResetFirst (core_of p) (core_of p).root

-- the tree of the core of a program stands as is asked of a node at a place of a core
abbrev pub RootStands : PlainProgram → Type 0
RootStands p = StandsIn (core_of p) nothing nothing [] (outside (memory_order (core_of p))) (core_of p).root
