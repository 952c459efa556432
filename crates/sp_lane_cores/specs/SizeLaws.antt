-- Laws of the size of cores in lanes, as statements.
use Rattle.std.specs.Prelude.{IsTrue}
use Rattle.sp_tree.specs.PlainProgram.{PlainProgram}
use Rattle.sp_core.specs.Invariant.{is_small}
use Rattle.sp_lanes.specs.Unrolled.{unrolled}
use Rattle.sp_sugar.specs.Core.{core_of}

abbrev pub StaysSmall : PlainProgram → Type 0
StaysSmall p = IsTrue (is_small (unrolled (core_of p)))
