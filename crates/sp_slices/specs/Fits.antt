-- When a slice can be walked through, and which nets that gives.
use Rattle.std.specs.Prelude.{All}
use Rattle.sp_netlist.specs.Draft.{Draft}
use Rattle.sp_gates.specs.Nets.{HasNet}
use Rattle.sp_counters.specs.Fits.{CountFits, IsCounter}
use Rattle.sp_slices.specs.declared.part.Axis.{Axis}
use Rattle.sp_slices.specs.declared.part.Move.{Move}
use Rattle.sp_slices.specs.declared.part.Move.TheVariants.{One, Range}
use Rattle.sp_slices.specs.declared.part.Walk.{Walk}

abbrev pub MoveFits : Draft → Move → Type 0
MoveFits d (One i) = HasNet d i 32
MoveFits d (Range a b) = HasNet d a 32 × HasNet d b 32

pub record IsAxis (d : Draft) (a : Axis) : Type 0 where
  pub from : HasNet d a.from 32
  pub until : HasNet d a.until 32
  pub ended : HasNet d a.ended 1
  pub offset : HasNet d a.offset 32

pub record IsWalk (d : Draft) (walk : Walk) : Type 0 where
  pub counts : All (CountFits d) walk.counters.counters.items
  pub values : All (IsCounter d) walk.counted.counters.items
  pub more : HasNet d walk.counted.more 1
  pub axes : All (IsAxis d) walk.axes.items
  pub last : HasNet d walk.last 1
