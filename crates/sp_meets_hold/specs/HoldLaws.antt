-- The meets of a core hold.
use Rattle.std.specs.Prelude.{List}
use Rattle.sp_core.specs.declared.access.Meet.{Meet}
use Rattle.sp_core.specs.Invariant.{IsCore}
use Rattle.sp_core.specs.Meeting.{MeetsHold}
use Rattle.sp_core.specs.PlainCore.{PlainCore}
use Rattle.sp_patterns.specs.Patterns.{patterns_of}
use Rattle.sp_meets.specs.Meets.{IsMeetsOf}

-- those that its forms give
abbrev pub MeetsAreRight : Type 0
MeetsAreRight = (core : PlainCore) (meets : List Meet) → IsCore core → IsMeetsOf core (patterns_of core) meets → MeetsHold core meets
