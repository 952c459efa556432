-- Bodies of lanes without where they lie in memory; those that stand in one list of operations are kept without theirs.
use Rattle.std.specs.Prelude.{List, [], ◌++◌}
use Rattle.sp_core.specs.PlainCore.{PlainOp}
use Rattle.sp_lanes.specs.Bodies as plain
use Rattle.sp_unroll.specs.declared.bodies.Body.{Body}

abbrev pub plain_body : Body → plain.Body
plain_body b = record { mask = b.mask; ops = []; places = b.places.items }

abbrev pub bare : plain.Body → plain.Body
bare b = record b { ops = [] }

-- operations before those of a body
abbrev pub before : List PlainOp → plain.Body → plain.Body
before ops b = record b { ops = ops ++ b.ops }
